-- IEEE 754's square root of a double, in exact fractions: what `root::sqrt` promises of its result, for every argument. It
-- determines the result (Laws/SquareRoot.antt `square-root-unique`).
use Rattle.std.specs.Prelude.{◌≡◌, true, false, T, Float}
use Rattle.std.specs.Float.Ieee as Ieee
use Rattle.std.specs.Float.{nan, inf, binary64}
use Rattle.std.specs.Float.Ieee.{fits}
use Rattle.std.specs.Float.Ieee.Scale.{finite}
use Rattle.exact.specs.Fraction.{ℚ, qn, ◌+q◌, ◌*q◌, ◌≤q◌, ◌<q◌}
use Rattle.exact.specs.Value.{val}
use Rattle.arith.specs.Real.{ratio}
use Rattle.arith.specs.Root.{sqrt}

-- a finite number that binary64 has
abbrev pub Double : Float → Type 0
Double d = T (finite d) × T (fits binary64 d)

-- r is the double nearest to the root of x, for an x above 0: of every other double d the middle of d and r lies on d's side
-- of the root. By squares, and times 4: (d + r)² is below 4 x for a d below r (or d + r is below 0), and above it for a d above r.
-- So no double is as near as r, and there never is a tie, which IEEE 754 would give to the even one.
pub record Nearest (x : ℚ) (r : Float) : Type 0 where
  pub double : Double r
  pub above_zero : qn 0 <q val r
  pub below : (d : Float) → Double d → val d <q val r → qn 0 ≤q val d +q val r → (val d +q val r) *q (val d +q val r) <q qn 4 *q x
  pub above : (d : Float) → Double d → val r <q val d → qn 4 *q x <q (val d +q val r) *q (val d +q val r)

-- a NaN, and what is below 0, -infinity too, give a NaN; +0, -0 and +infinity give themselves
pub record IsSquareRoot (x r : Float) : Type 0 where
  pub of_nan : x ≡ nan → r ≡ nan
  pub of-below : Ieee.lt x (ratio 0 1) ≡ true → r ≡ nan
  pub of_zero : Ieee.eq x (ratio 0 1) ≡ true → r ≡ x
  pub of-infinity : x ≡ inf false → r ≡ x
  pub of-above : T (finite x) → qn 0 <q val x → Nearest (val x) r

-- the contract of `root::sqrt`: the digits of its result as Root.antt computes them, and what they are
pub record Rooted (x r : Float) : Type 0 where
  pub is : r ≡ sqrt binary64 x
  pub ieee : IsSquareRoot x r
