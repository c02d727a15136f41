-- Where a rotation normalizes to `unit`, the definitions of `Unit` are those of `Body`; where it does not normalize, every turn by it fails.
-- So a definition of `Body` whose turns normalize one by one is the chain of the code, which normalizes once.
use lib.Ieee.{Float}
use mathlib.Core.Path.{◌≡◌, refl, sym, ap}
use Rattle.std.specs.Prelude.{Option, Some, None, ok_or, cond, not, ◌&&◌}
use Rattle.arith.specs.Real.{◌⊘◌}
use Rattle.arith.specs.Flow.{stop, go, and_then, ◌>>=◌, return_if, loop}
use Rattle.arith.specs.Literals.{literals}
use Rattle.arith.specs.FlowLaws.{then-stop, then-then}
use Rattle.vectors.specs.declared.vector.Vec3.{Vec3}
use Rattle.vectors.specs.declared.matrix.Mat3.{Mat3}
use Rattle.vectors.specs.declared.quaternion.Quat.{Quat}
use Rattle.vectors.specs.Vector.{add_of, sub_of, scale_of, div_of}
use Rattle.vectors.specs.Matrix.{apply_of}
use Rattle.vectors.specs.Quaternion.{conjugate_of, is_normalized_of, quat_try_normalize_of}
use Rattle.vectors.specs.Laws.AsUnit.{rotates-as-unit, conjugate-rotates-as-unit, integrates-as-unit, no-unit-no-rotation, conjugate-no-rotation}
use Rattle.rows.specs.declared.body.RigidBody.{RigidBody}
use Rattle.rows.specs.declared.body.BodyState.{BodyState}
use Rattle.rows.specs.declared.body.MomentumBody.{MomentumBody}
use Rattle.rows.specs.Fault.{ArithmeticOverflow, Result, try_finite, try_rotate}
use Rattle.rows.specs.Body.{world_center_of_mass_of, integrate, new_of, inverse_angular_mass_of, body_with, placed_at, pass_of, settled, drift_of}
use Rattle.rows.specs.Body.{origin_of, state_of, state_with, same_vec3, same_quat}
use Rattle.rows.specs.Unit.{UnitOf, unit_of, try_rotate_as_unit, integrate_as_unit, in_frame, world_center_as_unit}

module _ {q unit : Quat} (n : UnitOf q unit) where
  pub rotate_is : (v : Vec3) → try_rotate_as_unit unit v ≡ try_rotate q v
  rotate_is v = ap (λ (o : Option Vec3). ok_or o ArithmeticOverflow) (sym (rotates-as-unit q n.is v))

  pub back_is : (v : Vec3) → try_rotate_as_unit (conjugate_of unit) v ≡ try_rotate (conjugate_of q) v
  back_is v = ap (λ (o : Option Vec3). ok_or o ArithmeticOverflow) (sym (conjugate-rotates-as-unit q n.is v))

  pub integrate_is : (omega : Vec3) (dt : Float) → integrate_as_unit unit omega dt ≡ integrate q omega dt
  integrate_is omega dt = ap (λ (o : Option Quat). ok_or o ArithmeticOverflow) (sym (integrates-as-unit q n.is omega dt))

  pub in_frame_is : (m : Mat3) (v : Vec3) → in_frame unit m v ≡ (try_rotate (conjugate_of q) v >>= λ local. try_rotate q (apply_of m local))
  unfolding in_frame
  in_frame_is m v = simp (rotate_is, back_is)

  pub center_is : (origin local : Vec3) → world_center_as_unit origin unit local ≡ world_center_of_mass_of origin q local
  unfolding world_center_as_unit world_center_of_mass_of
  center_is origin local = simp rotate_is

-- a turn by it beside the code's numbers, and a half step's
pub ruleset turns = (rotate_is, literals)

pub ruleset halves = (integrate_is, literals)

-- the origin with its centre of mass written out
pub origin_is : (self : MomentumBody) → origin_of self ≡ (do
  turned ← try_rotate self.rotation self.center_of_mass
  origin ← try_finite (sub_of self.center turned)
  _ ← return_if (not (is_normalized_of self.rotation)) ArithmeticOverflow
  _ ← try_rotate self.rotation self.center_of_mass >>= λ turned. try_finite (add_of turned origin)
  go origin)
unfolding origin_of world_center_of_mass_of
origin_is self = refl

pub ruleset origins = (rotate_is, origin_is)

module _ (q : Quat) (n : quat_try_normalize_of q ≡ None) where
  pub no-back : (v : Vec3) → stop ArithmeticOverflow ≡ try_rotate (conjugate_of q) v
  no-back v = ap (λ (o : Option Vec3). ok_or o ArithmeticOverflow) (sym (conjugate-no-rotation q n v))

  pub no-turn : (v : Vec3) → stop ArithmeticOverflow ≡ try_rotate q v
  no-turn v = ap (λ (o : Option Vec3). ok_or o ArithmeticOverflow) (sym (no-unit-no-rotation q n v))

-- what is d with a unit and fails with none
by-unit : {A : Type 0} {d : Result A} (q : Quat) (f : Quat → Result A) → ((unit : Quat) → UnitOf q unit → f unit ≡ d)
    → (quat_try_normalize_of q ≡ None → stop ArithmeticOverflow ≡ d) → d ≡ (unit_of q >>= f)
unfolding and_then
by-unit {A} {d} q f some none = case (quat_try_normalize_of q) refl
  where
    case : (o : Option Quat) → quat_try_normalize_of q ≡ o → d ≡ (ok_or o ArithmeticOverflow >>= f)
    case (Some unit) n = sym (some unit (record { is = n }))
    case None n = sym (none n)

module _ (body : RigidBody) (inverse : Mat3) where
  pub new_by_unit : new_of body inverse ≡ (unit_of body.rotation >>= λ unit. do
    spin ← in_frame unit body.inertia body.angular_velocity
    momentum ← try_finite (scale_of body.linear_velocity body.mass)
    center ← world_center_as_unit body.origin unit body.center_of_mass
    go (body_with center body.rotation momentum spin body.mass body.center_of_mass inverse))
  unfolding new_of
  new_by_unit = by-unit body.rotation _ (λ unit n. simp (in_frame_is n, center_is n, then-then)) (λ n. then-stop _ (no-back body.rotation n _))

module _ (self : MomentumBody) where
  pub mass_by_unit : (spin : Vec3) → inverse_angular_mass_of self spin ≡ (unit_of self.rotation >>= λ unit. in_frame unit self.inverse_inertia spin)
  unfolding inverse_angular_mass_of
  mass_by_unit spin = by-unit self.rotation _ (λ unit n. in_frame_is n _ _) (λ n. then-stop _ (no-back self.rotation n _))

  pub drift_by_unit : (dt : Float) → drift_of self dt ≡ (do
    center ← try_finite (add_of self.center (scale_of self.momentum (dt ⊘ self.mass)))
    unit ← unit_of self.rotation
    omega ← in_frame unit self.inverse_inertia self.spin
    rotation ← settled (loop 32 (λ k. pass_of self dt) omega)
    go (placed_at self center rotation))
  unfolding drift_of
  drift_by_unit dt = simp (mass_by_unit self.spin, then-then)

  pub state_by_unit : (old : BodyState) → state_of self old ≡ (unit_of self.rotation >>= λ unit. do
    origin ← origin_of self
    linear ← try_finite (div_of self.momentum self.mass)
    angular ← in_frame unit self.inverse_inertia self.spin
    go (cond (same_vec3 origin old.origin && same_quat self.rotation old.rotation)
        (state_with old.origin old.rotation linear angular)
        (state_with origin self.rotation linear angular)))
  unfolding state_of inverse_angular_mass_of origin_of
  state_by_unit old =
      by-unit self.rotation _ (λ unit n. simp (in_frame_is n)) (λ n. then-stop _ (then-stop _ (no-turn self.rotation n _)))
