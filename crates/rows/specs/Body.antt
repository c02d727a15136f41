-- body.rs: a body with its momenta, as the solver moves it.
use Rattle.std.specs.Prelude.{◌^◌, Bool, cond, not, ◌&&◌, Float, ok_or}
use Rattle.rows.specs.Words.{eq, le, ◌⊕◌, ◌⊗◌, ◌⊘◌, ratio, Turn, go, stop, ◌>>=◌, loop, return_if, Vec3, Quat, Mat3}
use Rattle.rows.specs.Words.{add_of, sub_of, scale_of, div_of, conjugate_of, is_normalized_of, integrate_of, apply_of, RigidBody, BodyState, MomentumBody}
use Rattle.rows.specs.Fault.{NonConvergent, ArithmeticOverflow, Result, try_finite, try_length, try_rotate, or_leave}

abbrev pub body_with : Vec3 → Quat → Vec3 → Vec3 → Float → Vec3 → Mat3 → MomentumBody  -- the body with these parts
body_with center rotation momentum spin mass local inverse =
    record { center = center; rotation = rotation; momentum = momentum; spin = spin; mass = mass; center_of_mass = local; inverse_inertia = inverse }

abbrev pub state_with : Vec3 → Quat → Vec3 → Vec3 → BodyState  -- the state with these parts
state_with origin rotation linear angular = record { origin = origin; rotation = rotation; linear_velocity = linear; angular_velocity = angular }

unfoldable pub world_center_of_mass_of : Vec3 → Quat → Vec3 → Result Vec3  -- rigid_body.rs, fn world_center_of_mass_for
world_center_of_mass_of origin rotation center_of_mass = try_rotate rotation center_of_mass >>= λ turned. try_finite (add_of turned origin)

unfoldable pub new_of : RigidBody → Mat3 → Result MomentumBody  -- fn new; that the inertia has an inverse was tested before (refusal 7)
new_of body inverse = do
  local_omega ← try_rotate (conjugate_of body.rotation) body.angular_velocity
  spin ← try_rotate body.rotation (apply_of body.inertia local_omega)
  momentum ← try_finite (scale_of body.linear_velocity body.mass)
  center ← world_center_of_mass_of body.origin body.rotation body.center_of_mass
  go (body_with center body.rotation momentum spin body.mass body.center_of_mass inverse)

unfoldable pub inverse_angular_mass_of : MomentumBody → Vec3 → Result Vec3  -- fn inverse_angular_mass
inverse_angular_mass_of self spin =
    try_rotate (conjugate_of self.rotation) spin >>= λ local. try_rotate self.rotation (apply_of self.inverse_inertia local)

abbrev pub omega_of : MomentumBody → Result Vec3  -- fn omega
omega_of self = inverse_angular_mass_of self self.spin

abbrev pub with_momenta : MomentumBody → Vec3 → Vec3 → MomentumBody  -- the body with other momenta
with_momenta self momentum spin = body_with self.center self.rotation momentum spin self.mass self.center_of_mass self.inverse_inertia

abbrev pub placed_at : MomentumBody → Vec3 → Quat → MomentumBody  -- the body at another place
placed_at self center rotation = body_with center rotation self.momentum self.spin self.mass self.center_of_mass self.inverse_inertia

unfoldable pub kick_of : MomentumBody → Vec3 → Vec3 → Result MomentumBody  -- fn kick
kick_of self linear angular = do
  momentum ← try_finite (add_of self.momentum linear)
  spin ← try_finite (add_of self.spin angular)
  go (with_momenta self momentum spin)

unfoldable pub anchor_of : MomentumBody → Vec3 → Result Vec3  -- fn anchor
anchor_of self local = try_rotate self.rotation (sub_of local self.center_of_mass) >>= λ arm. try_finite (add_of self.center arm)

abbrev pub integrate : Quat → Vec3 → Float → Result Quat  -- rotation.integrate_world_angular_velocity(omega, dt)?
integrate rotation omega dt = ok_or (integrate_of rotation omega dt) ArithmeticOverflow

-- a pass of the loop, from the rotation at entry: the next omega, or the loop is left with the rotation at the end of the step
unfoldable pub pass_of : MomentumBody → Float → Vec3 → Turn Vec3 (Result Quat)
pass_of self dt omega = do
  half ← or_leave (integrate self.rotation omega (dt ⊗ ratio 1 2))
  next ← or_leave (omega_of (placed_at self self.center half))
  residual ← or_leave (try_length (sub_of next omega))
  size ← or_leave (try_length next)
  _ ← return_if (le residual (ratio 1 (10 ^ 14) ⊗ (ratio 1 1 ⊕ size))) (integrate self.rotation next dt)
  go next

abbrev pub settled : Turn Vec3 (Result Quat) → Result Quat  -- after MAX_ITERATIONS passes: Err(NonConvergent)
settled passes = elim passes [ go omega ↦ stop NonConvergent | stop rotation ↦ rotation ]

unfoldable pub drift_of : MomentumBody → Float → Result MomentumBody  -- fn drift
drift_of self dt = do
  center ← try_finite (add_of self.center (scale_of self.momentum (dt ⊘ self.mass)))
  omega ← omega_of self
  rotation ← settled (loop 32 (λ k. pass_of self dt) omega)
  go (placed_at self center rotation)

abbrev pub same_vec3 : Vec3 → Vec3 → Bool  -- transform == other: the origins
same_vec3 v w = eq v.x w.x && eq v.y w.y && eq v.z w.z

abbrev pub same_quat : Quat → Quat → Bool  -- and the rotations
same_quat p q = eq p.x q.x && eq p.y q.y && eq p.z q.z && eq p.w q.w

unfoldable pub origin_of : MomentumBody → Result Vec3  -- the origin, as Transform::new and set_transform take it
origin_of self = do
  turned ← try_rotate self.rotation self.center_of_mass
  origin ← try_finite (sub_of self.center turned)
  _ ← return_if (not (is_normalized_of self.rotation)) ArithmeticOverflow
  _ ← world_center_of_mass_of origin self.rotation self.center_of_mass
  go origin

unfoldable pub state_of : MomentumBody → BodyState → Result BodyState  -- fn state: the transform keeps its old bits where the new one compares equal
state_of self old = do
  origin ← origin_of self
  linear ← try_finite (div_of self.momentum self.mass)
  angular ← omega_of self
  go (cond (same_vec3 origin old.origin && same_quat self.rotation old.rotation)
      (state_with old.origin old.rotation linear angular)
      (state_with origin self.rotation linear angular))
