-- What contracts of this crate say beside the definitions: rotations by a quaternion that is normalized.
use Rattle.std.specs.Prelude.{Option, Some, None}
use Rattle.std.specs.Prelude.{cond, not, Float}
use Rattle.vectors.specs.declared.vector.Vec3.{Vec3}
use Rattle.vectors.specs.declared.quaternion.Quat.{Quat}
use Rattle.vectors.specs.Vector.{finite_of}
use Rattle.vectors.specs.Quaternion.{rotated_of, delta_in, integrated}

-- `rotate_vector_of` and `integrate_of` of every quaternion that normalizes to u
unfoldable pub rotate_as_unit_of : Quat → Vec3 → Option Vec3
rotate_as_unit_of u v = cond (not (finite_of v)) None (rotated_of u v)

unfoldable pub integrate_as_unit_of : Quat → Vec3 → Float → Option Quat
integrate_as_unit_of u velocity dt = integrated (delta_in velocity dt) (Some u)
