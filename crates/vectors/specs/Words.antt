-- The names that the definitions use of the toolchain, of the crate beneath and of the code's types, passed on: nothing is defined here.
pub use Rattle.arith.specs.Words.{nan, binary64, neg, eq, lt, le}
pub use Rattle.arith.specs.Real.{◌⊕◌, ◌⊖◌, ◌⊗◌, ◌⊘◌, ratio, is_finite, abs_of, max_of}
pub use Rattle.arith.specs.Hypot.{hypot_of}
pub use Rattle.arith.specs.Root.{sqrt}
pub use Rattle.arith.specs.Flow.{Turn, go, stop, ◌>>=◌, turns, loop, return_if}
pub use Rattle.arith.specs.declared.angle.SineCosine.{SineCosine}
pub use Rattle.arith.specs.declared.fault.CollisionError.{CollisionError}
pub use Rattle.arith.specs.Angle.{PI, sin_cos_of, atan2_of, rem_tau_of}
pub use Rattle.vectors.specs.declared.vector.Vec3.{Vec3}
pub use Rattle.vectors.specs.declared.matrix.Mat3.{Mat3}
pub use Rattle.vectors.specs.declared.matrix.CholeskyError.{CholeskyError}
pub use Rattle.vectors.specs.declared.matrix.CholeskyError.TheVariants.{NonFiniteInput, NotSymmetric, NotPositiveDefinite, ResultOutOfRange}
pub use Rattle.vectors.specs.declared.matrix.Cholesky3.{Cholesky3}
pub use Rattle.vectors.specs.declared.quaternion.Quat.{Quat}
