-- The exact sums as polynomials for the tests of the crate `exact`.
use Rattle.std.specs.Prelude.{◌≡◌, refl, [], ◌∷◌, ℕ, zero, suc, ◌+◌}
use Rattle.exact.specs.Rat.{ℚ, whole}
use Rattle.exact.specs.RingQ.{Rx, rv, rat, ◌⊖◌, ◌⊗◌, ev_r}
use Rattle.arith.specs.Angle.{factorial}
use Rattle.arith.specs.ExactSums.{factorial-pos, sine_sum41, cosine_sum42}

unfoldable pub power_r : ℕ → Rx
power_r zero = rat (whole 1 0)
power_r (suc n) = rv 0 ⊗ power_r n

unfoldable pub terms_r : ℕ → ℕ → Rx
unfolding power_r factorial
terms_r zero n = rat (whole 0 0)
terms_r (suc k) n = power_r n ⊗ rat (record { p = 1; n = 0; d = factorial n; dp = factorial-pos n }) ⊖ terms_r k (n + 2)

-- the polynomials of the sine's and the cosine's sum
unfoldable pub sine_r : Rx
unfolding terms_r
sine_r = terms_r 21 1

unfoldable pub cosine_r : Rx
unfolding terms_r
cosine_r = terms_r 22 0

pub sine-poly : (x : ℚ) → ev_r (x ∷ []) sine_r ≡ sine_sum41 x
unfolding sine_r sine_sum41
sine-poly x = refl

pub cosine-poly : (x : ℚ) → ev_r (x ∷ []) cosine_r ≡ cosine_sum42 x
unfolding cosine_r cosine_sum42
cosine-poly x = refl
