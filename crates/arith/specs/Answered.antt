-- What contracts of this crate say beside the definitions: that `sin_cos` and `atan2` are refused only where SPECIFICATION says so, and
-- which whole number is nearest to a square root.
use Rattle.std.specs.Prelude.{ℕ, ◌+◌, ◌*◌, ◌<◌, ◌≤◌, ◌≡◌, cond, ◌&&◌, Float, Result}
use Rattle.std.specs.Float.Ieee as Ieee
use Rattle.arith.specs.Real.{ratio, is_finite}
use Rattle.arith.specs.Fault.{CollisionError, ArithmeticOverflow, number, refusal_number}
use Rattle.arith.specs.Angle.{sin_cos_of, atan2_of}
use Rattle.arith.specs.declared.angle.SineCosine.{SineCosine}

-- what `sin_cos` promises: its value, and that it is refused unless 0 ≤ h ≤ 4
pub record SinCosAnswered (h : Float) (r : Result SineCosine CollisionError) : Type 0 where
  pub is : r ≡ sin_cos_of h
  pub numbered : refusal_number r ≡ cond (Ieee.le (ratio 0 1) h && Ieee.le h (ratio 4 1)) 0 (number ArithmeticOverflow)

-- what `atan2` promises: its value, and that it is refused unless both arguments are finite
pub record Atan2Answered (y x : Float) (r : Result Float CollisionError) : Type 0 where
  pub is : r ≡ atan2_of y x
  pub numbered : refusal_number r ≡ cond (is_finite y && is_finite x) 0 (number ArithmeticOverflow)

-- r is the whole number nearest to the square root of n: (2 * r - 1)² < 4 * n < (2 * r + 1)², in whole numbers. There is no tie.
abbrev pub NearRoot : ℕ → ℕ → Type 0
NearRoot n r = (r * r < n + r) × (n ≤ r * r + r)
