-- The names that the definitions use of the toolchain, of the crates beneath and of the code's types, passed on: nothing is defined here.
pub use Rattle.arith.specs.Words.{nan, neg, eq, lt, le}
pub use Rattle.arith.specs.Flow.{tab, every, go, stop, ◌>>=◌, loop, each, return_if, Turn}
pub use Rattle.arith.specs.Real.{ratio, is_finite, abs_of, ◌⊕◌, ◌⊘◌}
pub use Rattle.arith.specs.Angle.{PI}
pub use Rattle.vectors.specs.declared.quaternion.Quat.{Quat}
pub use Rattle.vectors.specs.declared.matrix.Mat3.{Mat3}
pub use Rattle.vectors.specs.Quaternion.{quat, is_normalized_of, to_mat3_of}
pub use Rattle.vectors.specs.Matrix.{from_cols, inverse_spd_of, finite_mat, mat_product_of, transpose_of}
pub use Rattle.vectors.specs.declared.vector.Vec3.{Vec3}
pub use Rattle.vectors.specs.Vector.{at, vec3_at, vec, finite_of, dot_of, div_of}
pub use Rattle.rows.specs.declared.body.RigidBody.{RigidBody}
pub use Rattle.rows.specs.declared.body.BodyState.{BodyState}
pub use Rattle.rows.specs.declared.body.MomentumBody.{MomentumBody}
pub use Rattle.rows.specs.declared.geometry.JointFrame.{JointFrame}
pub use Rattle.rows.specs.declared.geometry.Joint.{Joint}
pub use Rattle.rows.specs.declared.geometry.Kind.{Kind}
pub use Rattle.rows.specs.declared.geometry.Cone.{Cone}
pub use Rattle.rows.specs.declared.geometry.Turning.{Turning}
pub use Rattle.rows.specs.declared.geometry.Motions.{Motions}
pub use Rattle.rows.specs.declared.geometry.EqualityRow.{EqualityRow}
pub use Rattle.rows.specs.Motions.{motions_of}
pub use Rattle.rows.specs.Fault.{ArithmeticOverflow, Result, CollisionError, NonConvergent, number}
pub use Rattle.rows.specs.Body.{body_with, new_of, omega_of, kick_of, drift_of, state_with, state_of}
pub use Rattle.rows.specs.Geometry.{write_equality_rows}
pub use Rattle.rows.specs.ExactGeometry.{Place, record_place, Met, Stands, Proper}
pub use Rattle.solves.specs.System.{BODIES_MOST, System, rows_in, Counting}
pub use Rattle.solves.specs.declared.places.Generalized.{Generalized}
pub use Rattle.solves.specs.declared.places.MassResponse.{MassResponse}
pub use Rattle.solves.specs.Solver.{no_vec, row_in, generalized_in, try_number, transpose}
pub use Rattle.solves.specs.Search.{linear_solve}
pub use Rattle.step.specs.declared.Refusal.{Refusal}
pub use Rattle.step.specs.declared.Report.{Report}
