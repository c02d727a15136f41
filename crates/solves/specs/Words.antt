-- The names that the definitions use of the toolchain, of the crates beneath and of the code's types, passed on: nothing is defined here.
pub use Rattle.arith.specs.Words.{nan, binary64, le}
pub use Rattle.arith.specs.Real.{◌⊕◌, ◌⊖◌, ◌⊗◌, ◌⊘◌, ratio, is_finite}
pub use Rattle.arith.specs.Root.{sqrt}
pub use Rattle.arith.specs.Flow.{go, stop, ◌>>=◌, turns, loop, tab, each, return_if, Turn}
pub use Rattle.vectors.specs.declared.vector.Vec3.{Vec3}
pub use Rattle.vectors.specs.Vector.{zero_vec, dot_of, add_of, scale_of, at}
pub use Rattle.vectors.specs.Matrix.{apply_of}
pub use Rattle.rows.specs.declared.geometry.EqualityRow.{EqualityRow}
pub use Rattle.rows.specs.Fault.{CollisionError, NonConvergent, ArithmeticOverflow, Result, try_finite}
pub use Rattle.solves.specs.declared.places.MassResponse.{MassResponse}
pub use Rattle.solves.specs.declared.places.Generalized.{Generalized}
pub use Rattle.solves.specs.declared.order.RowBlock.{RowBlock}
pub use Rattle.solves.specs.declared.order.Ends.{Ends}
pub use Rattle.solves.specs.declared.order.NoPath.{NoPath}
