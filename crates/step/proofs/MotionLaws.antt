-- What no motion changes of a body: mass, local centre and inverse inertia. So a store of what moves holds the whole body.
use mathlib.Core.Path.{◌≡◌, refl, sym, ap, ◌∙◌, subst}
use lib.Ieee.{Float}
use Rattle.arith.specs.Flow.{go}
use Rattle.vectors.specs.declared.vector.Vec3.{Vec3}
use Rattle.vectors.specs.declared.matrix.Mat3.{Mat3}
use Rattle.vectors.specs.Matrix.{inverse_spd_of, zero_mat}
use Rattle.rows.specs.declared.body.RigidBody.{RigidBody}
use Rattle.rows.specs.declared.body.MomentumBody.{MomentumBody}
use Rattle.rows.specs.Body.{new_of, kick_of, drift_of}
use Rattle.rows.specs.Laws.Results.{step, go_same}
use Rattle.solves.specs.declared.places.Generalized.{Generalized}
use Rattle.step.specs.View.{cols_of, held_of, moved_to}
use Rattle.std.specs.Result.{result_unwrap_or}
use Rattle.step.specs.ViewLaws.{held-cols, inverse-cols, moved-is}
use Rattle.step.specs.Bodies.{kick_and_drift}

record SameMass (a b : MomentumBody) : Type 0 where
  pub mass-is : b.mass ≡ a.mass
  pub local-is : b.center_of_mass ≡ a.center_of_mass
  pub inertia-is : b.inverse_inertia ≡ a.inverse_inertia

kick-mass : (a : MomentumBody) (linear angular : Vec3) (b : MomentumBody) → kick_of a linear angular ≡ go b → SameMass a b
unfolding kick_of
kick-mass a linear angular b h =
    let r₁ = step _ _ b h in
    let r₂ = step _ _ b r₁.2 in
    subst (SameMass a) (go_same _ b r₂.2) (record { mass-is = refl; local-is = refl; inertia-is = refl })

drift-mass : (a : MomentumBody) (dt : Float) (b : MomentumBody) → drift_of a dt ≡ go b → SameMass a b
unfolding drift_of
drift-mass a dt b h =
    let r₁ = step _ _ b h in
    let r₂ = step _ _ b r₁.2 in
    let r₃ = step _ _ b r₂.2 in
    subst (SameMass a) (go_same _ b r₃.2) (record { mass-is = refl; local-is = refl; inertia-is = refl })

moved : (start a b : MomentumBody) → SameMass start a → SameMass a b → moved_to b start ≡ b
moved start a b s t = moved-is b start (t.mass-is ∙ s.mass-is) (t.local-is ∙ s.local-is) (t.inertia-is ∙ s.inertia-is)

-- a kick of a body with the start's mass, local centre and inverse inertia
pub kick-moved : (start a : MomentumBody) (linear angular : Vec3) {b : MomentumBody} → a.mass ≡ start.mass
    → a.center_of_mass ≡ start.center_of_mass → a.inverse_inertia ≡ start.inverse_inertia
    → go b ≡ kick_of a linear angular → moved_to b start ≡ b
kick-moved start a linear angular {b} m c i h =
    moved start a b (record { mass-is = m; local-is = c; inertia-is = i }) (kick-mass a linear angular b (sym h))

-- a kick and a drift of the start
pub drift-moved : (start : MomentumBody) (kick : Generalized) (dt : Float) {b : MomentumBody} → go b ≡ kick_and_drift dt start kick
    → moved_to b start ≡ b
drift-moved start kick dt {b} h =
    let r = step (kick_of start kick.linear kick.angular) (λ (a : MomentumBody). drift_of a dt) b (sym h) in
    moved start r.0 b (kick-mass start kick.linear kick.angular r.0 r.1) (drift-mass r.0 dt b r.2)

-- a body that begins holds its inverse by columns
pub new-held : (body : RigidBody) (m : Mat3) {b : MomentumBody} → go b ≡ new_of body (result_unwrap_or (inverse_spd_of m) zero_mat) → held_of b ≡ b
unfolding new_of
new-held body m {b} h =
    let r₁ = step _ _ b (sym h) in
    let r₂ = step _ _ b r₁.2 in
    let r₃ = step _ _ b r₂.2 in
    let r₄ = step _ _ b r₃.2 in
    let e : result_unwrap_or (inverse_spd_of m) zero_mat ≡ b.inverse_inertia = ap (λ (x : MomentumBody). x.inverse_inertia) (go_same _ b r₄.2) in
    held-cols b (subst (λ (x : Mat3). cols_of x ≡ x) e (inverse-cols m))
