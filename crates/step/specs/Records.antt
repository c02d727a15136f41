-- The record of a body: 26 doubles, namely origin 3, rotation 4, linear velocity 3, angular velocity 3, mass, local centre of mass 3, inertia 9 by columns.
use Rattle.std.specs.Prelude.{ℕ, ◌+◌, ◌*◌, ◌/◌, List, length, Float}
use Rattle.step.specs.Words.{tab, Quat, Mat3, quat, from_cols, Vec3, at, vec3_at, RigidBody}

abbrev pub RECORD : ℕ  -- its doubles (SPECIFICATION §6.1)
RECORD = 26

abbrev pub MOVING : ℕ  -- those of them that move, which come first
MOVING = 13

abbrev pub SCRATCH : ℕ  -- the doubles of scratch that a step asks for (§7)
SCRATCH = 6144

abbrev pub quat_at : List Float → ℕ → Quat
quat_at s i = quat (at s i) (at s (i + 1)) (at s (i + 2)) (at s (i + 3))

abbrev pub mat_at : List Float → ℕ → Mat3
mat_at s i = from_cols (vec3_at s i) (vec3_at s (i + 3)) (vec3_at s (i + 6))

abbrev pub record_with : Vec3 → Quat → Vec3 → Vec3 → Float → Vec3 → Mat3 → RigidBody  -- the record with these parts
record_with origin rotation v w mass local inertia =
    record { origin = origin; rotation = rotation; linear_velocity = v; angular_velocity = w; mass = mass; center_of_mass = local; inertia = inertia }

abbrev pub record_from : List Float → ℕ → RigidBody  -- the one that begins at s[i]
record_from s i = record_with (vec3_at s i) (quat_at s (i + 3)) (vec3_at s (i + 7)) (vec3_at s (i + 10)) (at s (i + 13)) (vec3_at s (i + 14))
    (mat_at s (i + 17))

abbrev pub record_at : List Float → ℕ → RigidBody  -- record k of a body slice
record_at s k = record_from s (RECORD * k)

abbrev pub count_of_bodies : List Float → ℕ
count_of_bodies s = length s / RECORD

abbrev pub records_of : List Float → List RigidBody
records_of s = tab (count_of_bodies s) (record_at s)
