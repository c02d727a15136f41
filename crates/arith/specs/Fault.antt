-- The number of each way to fail, and of an answer (SPECIFICATION §7.2 and §1.5).
use Rattle.std.specs.Prelude.{ℕ, Result, Ok, Err}
pub use Rattle.arith.specs.declared.fault.CollisionError.{CollisionError}
pub use Rattle.arith.specs.declared.fault.CollisionError.TheVariants.{NonConvergent, ArithmeticOverflow}

abbrev pub number : CollisionError → ℕ
number fault = elim fault [ NonConvergent ↦ 10 | ArithmeticOverflow ↦ 11 ]

abbrev pub refusal_number : {A : Type 0} → Result A CollisionError → ℕ  -- 0 where there is a value
refusal_number (Ok x) = 0
refusal_number (Err fault) = number fault
