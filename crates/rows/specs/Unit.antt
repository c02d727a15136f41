-- What private functions compute with a rotation that is normalized already: body.rt does that once a body, geometry.rt once a joint.
-- In `Body` and `Geometry` each turn normalizes for itself; that the answers are the same is proved in proofs/UnitLaws.
use Rattle.std.specs.Prelude.{◌≡◌, Float, Some, ok_or}
use Rattle.arith.specs.Flow.{◌>>=◌}
use Rattle.vectors.specs.declared.vector.Vec3.{Vec3}
use Rattle.vectors.specs.declared.matrix.Mat3.{Mat3}
use Rattle.vectors.specs.declared.quaternion.Quat.{Quat}
use Rattle.vectors.specs.Vector.{add_of}
use Rattle.vectors.specs.Matrix.{apply_of}
use Rattle.vectors.specs.Quaternion.{conjugate_of, quat_try_normalize_of}
use Rattle.vectors.specs.Answered.{rotate_as_unit_of, integrate_as_unit_of}
use Rattle.rows.specs.Fault.{ArithmeticOverflow, Result, try_finite}

-- q normalizes to unit
pub record UnitOf (q unit : Quat) : Type 0 where
  pub is : quat_try_normalize_of q ≡ Some unit

abbrev pub unit_of : Quat → Result Quat  -- what q normalizes to, or the error of whoever turns by q
unit_of q = ok_or (quat_try_normalize_of q) ArithmeticOverflow

abbrev pub try_rotate_as_unit : Quat → Vec3 → Result Vec3
try_rotate_as_unit unit value = ok_or (rotate_as_unit_of unit value) ArithmeticOverflow

abbrev pub integrate_as_unit : Quat → Vec3 → Float → Result Quat
integrate_as_unit unit omega dt = ok_or (integrate_as_unit_of unit omega dt) ArithmeticOverflow

-- a matrix of the body's frame, applied to a vector of the world
unfoldable pub in_frame : Quat → Mat3 → Vec3 → Result Vec3
in_frame unit matrix vector = try_rotate_as_unit (conjugate_of unit) vector >>= λ local. try_rotate_as_unit unit (apply_of matrix local)

-- origin plus rotated local centre
unfoldable pub world_center_as_unit : Vec3 → Quat → Vec3 → Result Vec3
world_center_as_unit origin unit center_of_mass = try_rotate_as_unit unit center_of_mass >>= λ turned. try_finite (add_of turned origin)
