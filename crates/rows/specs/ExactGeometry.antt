-- SPECIFICATION §14, in exact fractions and in its letters. It reads the origin and rotation of body records, and a joint; nothing of
-- the solver occurs in it.
use Rattle.std.specs.Prelude.{◌^◌, Bool, true, ◌&&◌, T}
use Rattle.std.proofs.Common.{lit<}
use Rattle.exact.specs.Rat.{ℚ, mk, qn, ◌+q◌, ◌-q◌, ◌*q◌, negq, ◌≤q◌, ◌<q◌, inv}
use Rattle.exact.specs.Val.{val}
use Rattle.arith.specs.Real.{is_finite}
use Rattle.vectors.specs.declared.vector.Vec3.{Vec3}
use Rattle.vectors.specs.declared.quaternion.Quat.{Quat}
use Rattle.vectors.specs.Vector.{finite_of}
use Rattle.vectors.specs.Quaternion.{quat_finite_of}
use Rattle.rows.specs.declared.body.RigidBody.{RigidBody}
use Rattle.rows.specs.declared.geometry.JointFrame.{JointFrame}
use Rattle.rows.specs.declared.geometry.Joint.{Joint}
use Rattle.rows.specs.declared.geometry.Linear.{Linear}
use Rattle.rows.specs.declared.geometry.Linear.TheVariants.{Point, Line, Plane}
use Rattle.rows.specs.declared.geometry.Turning.{Turning}
use Rattle.rows.specs.declared.geometry.Turning.TheVariants.{Free, Align, Cone}
use Rattle.rows.specs.declared.geometry.Motions.{Motions}
use Rattle.rows.specs.declared.geometry.Motions.TheVariants.{Rod, Frame}
use Rattle.rows.specs.Motions.{motions_of}

-- ---- vectors and quaternions of fractions
pub record Vector : Type 0 where
  pub x : ℚ
  pub y : ℚ
  pub z : ℚ

pub record Quaternion : Type 0 where
  pub x : ℚ
  pub y : ℚ
  pub z : ℚ
  pub w : ℚ

infixl 65 ◌+v◌
infixl 65 ◌-v◌
infixl 70 ◌×v◌
infixl 70 ◌·◌
abbrev pub ◌+v◌ : Vector → Vector → Vector
v +v w = record { x = v.x +q w.x; y = v.y +q w.y; z = v.z +q w.z }

abbrev pub ◌-v◌ : Vector → Vector → Vector
v -v w = record { x = v.x -q w.x; y = v.y -q w.y; z = v.z -q w.z }

abbrev pub ◌·◌ : Vector → Vector → ℚ
v · w = v.x *q w.x +q v.y *q w.y +q v.z *q w.z

abbrev pub ◌×v◌ : Vector → Vector → Vector
v ×v w = record { x = v.y *q w.z -q v.z *q w.y; y = v.z *q w.x -q v.x *q w.z; z = v.x *q w.y -q v.y *q w.x }

abbrev pub times : ℚ → Vector → Vector
times k v = record { x = k *q v.x; y = k *q v.y; z = k *q v.z }

-- v / n, for n above 0
abbrev pub over : Vector → ℚ → Vector
over v n = record { x = v.x *q inv n; y = v.y *q inv n; z = v.z *q inv n }

-- the numbers that doubles stand for
abbrev pub vector : Vec3 → Vector
vector v = record { x = val v.x; y = val v.y; z = val v.z }

abbrev pub quaternion : Quat → Quaternion
quaternion q = record { x = val q.x; y = val q.y; z = val q.z; w = val q.w }

-- ---- rotations
-- N, the sum of the four squares
abbrev pub N : Quaternion → ℚ
N q = q.x *q q.x +q q.y *q q.y +q q.z *q q.z +q q.w *q q.w

-- v turned: v + 2 (w (u × v) + u × (u × v)) / N
abbrev pub turned : Quaternion → Vector → Vector
turned q v =
    let u : Vector = record { x = q.x; y = q.y; z = q.z } in
    v +v over (times (qn 2) (times q.w (u ×v v) +v u ×v (u ×v v))) (N q)

-- the quaternion product, first b and then a
abbrev pub product : Quaternion → Quaternion → Quaternion
product a b = record {
  x = a.w *q b.x +q a.x *q b.w +q a.y *q b.z -q a.z *q b.y;
  y = a.w *q b.y -q a.x *q b.z +q a.y *q b.w +q a.z *q b.x;
  z = a.w *q b.z +q a.x *q b.y -q a.y *q b.x +q a.z *q b.w;
  w = a.w *q b.w -q a.x *q b.x -q a.y *q b.y -q a.z *q b.z;
}

abbrev pub X : Quaternion → Vector
X q = turned q (record { x = qn 1; y = qn 0; z = qn 0 })

abbrev pub Y : Quaternion → Vector
Y q = turned q (record { x = qn 0; y = qn 1; z = qn 0 })

abbrev pub Z : Quaternion → Vector
Z q = turned q (record { x = qn 0; y = qn 0; z = qn 1 })

-- ---- a body record's place, and a joint's frame there
pub record Place : Type 0 where
  pub origin : Vector
  pub rotation : Quaternion

abbrev pub place_of : Vec3 → Quat → Place
place_of origin rotation = record { origin = vector origin; rotation = quaternion rotation }

abbrev pub record_place : RigidBody → Place
record_place body = place_of body.origin body.rotation

abbrev pub anchor : Place → JointFrame → Vector
anchor p f = p.origin +v turned p.rotation (vector f.local_anchor)

abbrev pub frame : Place → JointFrame → Quaternion
frame p f = product p.rotation (quaternion f.local_rotation)

-- ---- what the archive promises of a joint
abbrev pub squared : ℚ → ℚ
squared s = s *q s

-- 10^-6, and 10^-11
abbrev pub micrometre : ℚ
micrometre = mk (record { p = 1; n = 0; d = 10 ^ 6; dp = lit< tt })

abbrev pub across : ℚ
across = mk (record { p = 1; n = 0; d = 10 ^ 11; dp = lit< tt })

-- b's Z on the axes of frame a: at most 10^-11 in magnitude on X and on Y, above 0 on Z
pub record Aligned (a : Quaternion) (z : Vector) : Type 0 where
  pub on-x : (negq across ≤q z · X a) × (z · X a ≤q across)
  pub on-y : (negq across ≤q z · Y a) × (z · Y a ≤q across)
  pub on-z : qn 0 <q z · Z a

-- d is anchor b less anchor a, and t is d · Z a, for frame a: the square of how far anchor b stands off anchor a, off the line through
-- it along Z a, or off the plane through it across Z a
abbrev pub off : Linear → Vector → Quaternion → ℚ
off Point d a = d · d
off Line d a = d · d -q squared (d · Z a)
off Plane d a = squared (d · Z a)

-- z is frame b's Z. Of a cone and a twist nothing more is promised
abbrev pub Turned : Turning → Quaternion → Vector → Type 0
Turned Free a z = Unit {0}
Turned Align a z = Aligned a z
Turned (Cone cone) a z = Unit {0}

abbrev pub MetBy : Motions → Vector → Quaternion → Vector → Type 0
MetBy (Rod L) d a z = (squared (val L -q micrometre) ≤q d · d) × (d · d ≤q squared (val L +q micrometre))
MetBy (Frame linear turning) d a z = (off linear d a ≤q squared micrometre) × Turned turning a z

-- the sections that a joint joins meet there, for bodies at the places a and b
abbrev pub Met : Joint → Place → Place → Type 0
Met joint a b =
    let d = anchor b joint.frame_b -v anchor a joint.frame_a in
    MetBy (motions_of joint.kind) d (frame a joint.frame_a) (Z (frame b joint.frame_b))

-- a record's place is one: its numbers are finite, and N is above 0
pub record Stands (origin : Vec3) (rotation : Quat) : Type 0 where
  pub origin-finite : T (finite_of origin)
  pub rotation-finite : T (quat_finite_of rotation)
  pub N-above : qn 0 <q N (quaternion rotation)

-- the numbers of a kind are finite
abbrev pub turning_finite : Turning → Bool
turning_finite Free = true
turning_finite Align = true
turning_finite (Cone cone) = is_finite cone.swing_x && is_finite cone.swing_y && is_finite cone.twist_lower && is_finite cone.twist_upper

abbrev pub motions_finite : Motions → Bool
motions_finite (Rod L) = is_finite L
motions_finite (Frame _ turning) = turning_finite turning

-- `Met` speaks of real numbers: every number of the joint is finite, and N is above 0 for both frame rotations, alone and in bodies
-- at the places a and b
pub record Proper (joint : Joint) (a b : Place) : Type 0 where
  pub frame-a : Stands joint.frame_a.local_anchor joint.frame_a.local_rotation
  pub frame-b : Stands joint.frame_b.local_anchor joint.frame_b.local_rotation
  pub kind-finite : T (motions_finite (motions_of joint.kind))
  pub product-a : qn 0 <q N (frame a joint.frame_a)
  pub product-b : qn 0 <q N (frame b joint.frame_b)
