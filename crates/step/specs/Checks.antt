-- Refusals 1 to 9 of SPECIFICATION §7, each number over all bodies or joints before the next.
use Rattle.std.specs.Prelude.{ℕ, ◌/◌, ◌%◌, ◌^◌, List, Bool, true, not, ◌&&◌, ◌||◌, length, get_or, Float, ltb, leb, eqb, is_ok}
use Rattle.step.specs.Words.{nan, neg, eq, lt, le, every, Turn, go, stop, ◌>>=◌, return_if}
use Rattle.step.specs.Words.{ratio, is_finite, abs_of, PI, quat, is_normalized_of, inverse_spd_of, Vec3, at, vec, finite_of, RigidBody, JointFrame, Joint}
use Rattle.step.specs.Words.{Kind, Cone, Turning, Motions, motions_of, BODIES_MOST, Refusal}
use Rattle.step.specs.Records.{RECORD, SCRATCH, record_at, count_of_bodies}

abbrev pub number_of : Turn (Unit {0}) Refusal → ℕ  -- the number of a refusal, and 0 for an accepted step
number_of (go _) = 0
number_of (stop Refusal.TimeStep) = 1
number_of (stop Refusal.Bodies) = 2
number_of (stop Refusal.Joints) = 3
number_of (stop Refusal.Scratch) = 4
number_of (stop Refusal.NotFinite) = 5
number_of (stop Refusal.OutOfRange) = 6
number_of (stop Refusal.Inertia) = 7
number_of (stop Refusal.JointBodies) = 8
number_of (stop Refusal.JointNumbers) = 9
number_of (stop Refusal.NonConvergent) = 10
number_of (stop Refusal.ArithmeticOverflow) = 11
number_of (stop Refusal.Ground) = 12

abbrev pub within_of : Vec3 → Float → Bool  -- no coordinate above the limit in magnitude
within_of v limit = le (abs_of v.x) limit && le (abs_of v.y) limit && le (abs_of v.z) limit

abbrev pub time_step_ok : Float → Bool  -- refusal 1
time_step_ok dt = is_finite dt && lt (ratio 0 1) dt

abbrev pub bodies_fit : ℕ → Bool  -- refusal 2
bodies_fit doubles = eqb (doubles % RECORD) 0 && leb (doubles / RECORD) BODIES_MOST

abbrev pub mass_in_range : Float → Bool
mass_in_range mass = le (ratio 1 (2 ^ 10)) mass && le mass (ratio (2 ^ 20) 1)

abbrev pub body_in_range : RigidBody → Bool  -- refusal 6
body_in_range body =
    within_of body.origin (ratio 8192 1) && within_of body.center_of_mass (ratio 64 1) && mass_in_range body.mass && is_normalized_of body.rotation

abbrev pub has_inverse : RigidBody → Bool  -- refusal 7
has_inverse body = is_ok (inverse_spd_of body.inertia)

abbrev pub joins_two : ℕ → Joint → Bool  -- refusal 8
joins_two body-count joint = ltb joint.body_a body-count && ltb joint.body_b body-count && not (eqb joint.body_a joint.body_b)

abbrev pub frame_ok : JointFrame → Bool  -- refusal 9, from here to joint_ok
frame_ok frame = finite_of frame.local_anchor && within_of frame.local_anchor (ratio 64 1) && is_normalized_of frame.local_rotation

abbrev pub length_ok : Float → Bool
length_ok length = le (ratio 1 8) length && le length (ratio 8192 1)

abbrev pub swing_ok : Float → Bool
swing_ok swing = eq swing (ratio 0 1) || eq swing PI

abbrev pub twist_ok : Float → Float → Bool  -- equal at both limits, or free
twist_ok lower upper =
    le (abs_of lower) (ratio 4 1) && le (abs_of upper) (ratio 4 1)
    && (eq lower upper || le lower (neg PI) && le PI upper)

abbrev pub cone_ok : Cone → Bool
cone_ok cone = swing_ok cone.swing_x && swing_ok cone.swing_y && twist_ok cone.twist_lower cone.twist_upper

abbrev pub turning_ok : Turning → Bool
turning_ok turning = elim turning [ Turning.Free ↦ true | Turning.Align ↦ true | Turning.Cone cone ↦ cone_ok cone ]

abbrev pub motions_ok : Motions → Bool  -- the numbers of a kind
motions_ok motions = elim motions [ Motions.Rod length ↦ length_ok length | Motions.Frame _ turning ↦ turning_ok turning ]

abbrev pub joint_ok : Joint → Bool
joint_ok joint = frame_ok joint.frame_a && frame_ok joint.frame_b && motions_ok (motions_of joint.kind)

abbrev pub joint_in : List Joint → ℕ → Joint  -- joints[k]; what stands past the end of the table refusal 9 does not let pass
joint_in joints k =
    let frame : JointFrame = record { local_anchor = vec nan nan nan; local_rotation = quat nan nan nan nan } in
    get_or joints k (record { body_a = 0; body_b = 0; frame_a = frame; frame_b = frame; kind = Kind.Ball })

unfoldable pub sizes_or : ℕ → ℕ → Float → ℕ → Turn (Unit {0}) Refusal  -- go, or a refusal among 1 to 4, by numbers and lengths alone
sizes_or doubles count dt scratch = do
  _ ← return_if (not (time_step_ok dt)) Refusal.TimeStep
  _ ← return_if (not (bodies_fit doubles)) Refusal.Bodies
  _ ← return_if (ltb 16 count) Refusal.Joints
  return_if (ltb scratch SCRATCH) Refusal.Scratch

unfoldable pub bodies_or : List Float → ℕ → Turn (Unit {0}) Refusal  -- or a refusal among 5 to 7, of so many bodies
bodies_or bodies body-count = do
  _ ← return_if (not (every (length bodies) (λ k. is_finite (at bodies k)))) Refusal.NotFinite
  _ ← return_if (not (every body-count (λ k. body_in_range (record_at bodies k)))) Refusal.OutOfRange
  return_if (not (every body-count (λ k. has_inverse (record_at bodies k)))) Refusal.Inertia

unfoldable pub joints_or : List Joint → ℕ → ℕ → Turn (Unit {0}) Refusal  -- or refusal 8 or 9, of the joints of so many bodies
joints_or joints count body-count = do
  _ ← return_if (not (every count (λ k. joins_two body-count (joint_in joints k)))) Refusal.JointBodies
  return_if (not (every count (λ k. joint_ok (joint_in joints k)))) Refusal.JointNumbers

unfoldable pub refusal_of : List Float → List Joint → ℕ → Float → ℕ → Turn (Unit {0}) Refusal  -- go, or the first refusal among 1 to 9
refusal_of bodies joints count dt scratch = do
  _ ← sizes_or (length bodies) count dt scratch
  _ ← bodies_or bodies (count_of_bodies bodies)
  joints_or joints count (count_of_bodies bodies)
