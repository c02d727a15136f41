-- The square root by its digits, in the manner of the toolchain's `Float.Ieee`. That `sqrt binary64` is IEEE 754's is proved (Laws/SquareRoot.antt).
-- `root n` is the largest r with r * r ≤ n. `sqrt f x` is the value of the format f that is nearest to the square root of x, a tie to the
-- even one: NaN and what is below zero give `nan`, and ±0 and +infinity give themselves.
use Rattle.std.specs.Prelude.{ℕ, zero, suc, ◌+◌, ◌-◌, ◌*◌, ◌/◌, ◌^◌, false, cond, leb, Float}
use Rattle.arith.specs.Words.{compare}
use Rattle.std.specs.Float.{nan, inf, fin, Format}
use Rattle.std.specs.Float.Ieee.{prec, low, up, down, size, units, nearest}

unfoldable pub root_in : ℕ → ℕ → ℕ  -- the root of an n of at most d digits to the base 4, digit by digit, raised where the square is at most n
root_in zero n = 0
root_in (suc d) n = let r = 2 * root_in d (n / 4) in cond (leb ((r + 1) * (r + 1)) n) (r + 1) r

unfoldable pub root : ℕ → ℕ
unfolding root_in size
root n = root_in (size n) n

-- v is in units of the square of the format's smallest value, its root in units of that value. Of the root's whole part the format keeps the
-- `prec` leading digits and drops k: the result is q times 2 ^ k units or the next one up, as the root compares with the middle of the two,
-- (2 * q + 1) * 2 ^ k / 2. Both sides of that comparison are squared.
unfoldable pub round_root : Format → ℕ → Float
unfolding root size units
round_root f v =
    let k = size (root v) - prec f in let u = 2 ^ k * 2 ^ k in let q = root (v / u) in
    units f false (nearest q (compare (4 * v) ((2 * q + 1) * (2 * q + 1) * u))) k

unfoldable pub sqrt : Format → Float → Float  -- a value that fits is a whole number of the smallest value 1 / 2 ^ low, so the division is exact
unfolding round_root
sqrt f nan = nan
sqrt f (inf s) = cond s nan (inf false)
sqrt f (fin s zero e) = fin s zero e
sqrt f (fin s (suc m) e) = cond s nan (round_root f (suc m * up e * 2 ^ low f / down e * 2 ^ low f))
