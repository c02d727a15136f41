-- The value of a Float as a fraction: `val`. A NaN and an infinity have none; they are given 0, and each statement about a value says that the Float is finite.
use Rattle.std.specs.Prelude.{Bool, true, false, ℕ, ◌*◌, ◌<◌, Float}
use Rattle.std.specs.Float.{nan, inf, fin}
use Rattle.std.specs.Float.Ieee.{up, down}
use Rattle.std.specs.Float.Ieee.Fits.{down_pos}
use Rattle.exact.specs.Fraction.{ℚ, Fr, mk, qn}

-- ±a / c
abbrev pub sg_f : Bool → (a c : ℕ) → 0 < c → Fr
sg_f false a c C = record { p = a; n = 0; d = c; dp = C }
sg_f true a c C = record { p = 0; n = a; d = c; dp = C }

abbrev pub sg : Bool → (a c : ℕ) → 0 < c → ℚ
sg s a c C = mk (sg_f s a c C)

abbrev pub val : Float → ℚ
val nan = qn 0
val (inf s) = qn 0
val (fin s m e) = sg s (m * up e) (down e) (down_pos e)
