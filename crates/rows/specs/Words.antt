-- The names that the definitions use of the toolchain, of the crates beneath and of the code's types, passed on: nothing is defined here.
pub use Rattle.vectors.specs.Words.{binary64, neg, eq, le, ◌⊕◌, ◌⊖◌, ◌⊗◌, ◌⊘◌, ratio}
pub use Rattle.vectors.specs.Words.{is_finite, abs_of, max_of, sqrt, Turn, go, stop, ◌>>=◌, loop, return_if, PI, atan2_of, rem_tau_of}
pub use Rattle.vectors.specs.declared.vector.Vec3.{Vec3}
pub use Rattle.vectors.specs.declared.quaternion.Quat.{Quat}
pub use Rattle.vectors.specs.declared.matrix.Mat3.{Mat3}
pub use Rattle.vectors.specs.Vector.{finite_of, checked_length_of, add_of, sub_of, scale_of, div_of, vec, zero_vec, axis_x, axis_y, axis_z, neg_of, dot_of}
pub use Rattle.vectors.specs.Vector.{cross_of}
pub use Rattle.vectors.specs.Vector.{try_normalize_of}
pub use Rattle.vectors.specs.Quaternion.{rotate_vector_of, conjugate_of, is_normalized_of, integrate_of, product_of, quat_try_normalize_of}
pub use Rattle.vectors.specs.Matrix.{apply_of}
pub use Rattle.rows.specs.declared.body.RigidBody.{RigidBody}
pub use Rattle.rows.specs.declared.body.BodyState.{BodyState}
pub use Rattle.rows.specs.declared.body.MomentumBody.{MomentumBody}
pub use Rattle.rows.specs.declared.geometry.Kind.{Kind}
pub use Rattle.rows.specs.declared.geometry.Linear.{Linear}
pub use Rattle.rows.specs.declared.geometry.Turning.{Turning}
pub use Rattle.rows.specs.declared.geometry.Motions.{Motions}
pub use Rattle.rows.specs.declared.geometry.Joint.{Joint}
pub use Rattle.rows.specs.declared.geometry.EqualityRow.{EqualityRow}
pub use Rattle.rows.specs.declared.geometry.Ends.{Ends}
pub use Rattle.rows.specs.declared.geometry.Axes.{Axes}
pub use Rattle.rows.specs.declared.geometry.Cone.{Cone}
pub use Rattle.rows.specs.declared.geometry.Relative.{Relative}
pub use Rattle.rows.specs.declared.geometry.Swing.{Swing}
