-- mod.rs: the solver's Result, and how what may be missing becomes its error.
use Rattle.std.specs.Prelude.{cond, Float, ok_or}
use Rattle.rows.specs.Words.{Turn, go, stop, Vec3, Quat, finite_of, checked_length_of, rotate_vector_of}
pub use Rattle.arith.specs.declared.fault.CollisionError.{CollisionError}
pub use Rattle.arith.specs.declared.fault.CollisionError.TheVariants.{NonConvergent, ArithmeticOverflow}
pub use Rattle.arith.specs.Fault.{number, refusal_number}

abbrev pub Result : Type 0 → Type 0
Result A = Turn A CollisionError

unfoldable pub try_finite : Vec3 → Result Vec3  -- fn finite
try_finite value = cond (finite_of value) (go value) (stop ArithmeticOverflow)

abbrev pub try_length : Vec3 → Result Float  -- fn length
try_length value = ok_or (checked_length_of value) ArithmeticOverflow

abbrev pub try_rotate : Quat → Vec3 → Result Vec3  -- fn rotate
try_rotate rotation value = ok_or (rotate_vector_of rotation value) ArithmeticOverflow

abbrev pub or_leave : {A B : Type 0} → Result A → Turn A (Result B)  -- e? in a function whose loop a Result leaves
or_leave result = elim result [ go a ↦ go a | stop fault ↦ stop (stop fault) ]
