-- The exact Taylor sums of sine and cosine in fractions, through the powers 41 and 42: they stand for the true values in the laws
-- of `sin_cos_of` and `atan2_of`.
use Rattle.std.specs.Prelude.{ℕ, zero, suc, ◌+◌, ◌<◌}
use Rattle.std.proofs.Common.{mul-pos, zero-lt-suc}
use Rattle.exact.specs.Rat.{ℚ, mk, qn, ◌-q◌, ◌*q◌}
use Rattle.arith.specs.Angle.{factorial}

pub factorial-pos : (n : ℕ) → 0 < factorial n
unfolding factorial
factorial-pos zero = zero-lt-suc 0
factorial-pos (suc n) = mul-pos (zero-lt-suc n) (factorial-pos n)

-- x to the power n
unfoldable pub power : ℚ → ℕ → ℚ
power x zero = qn 1
power x (suc n) = x *q power x n

-- x to the power n over n!
unfoldable pub term : ℚ → ℕ → ℚ
unfolding power factorial
term x n = power x n *q mk (record { p = 1; n = 0; d = factorial n; dp = factorial-pos n })

-- k terms from the power n on, every other power, signs alternating from +
unfoldable pub terms : ℕ → ℚ → ℕ → ℚ
unfolding term
terms zero x n = qn 0
terms (suc k) x n = term x n -q terms k x (n + 2)

-- x - x³/3! + .. + x⁴¹/41!
unfoldable pub sine_sum41 : ℚ → ℚ
unfolding terms
sine_sum41 x = terms 21 x 1

-- 1 - x²/2! + .. - x⁴²/42!
unfoldable pub cosine_sum42 : ℚ → ℚ
unfolding terms
cosine_sum42 x = terms 22 x 0
