-- What moves a body and what does not: a kick leaves it at its place, a drift keeps its local centre, and a body starts with its record's.
use Rattle.std.specs.Prelude.{◌≡◌, refl, Float}
use Rattle.std.proofs.Common.{ap, ◌∙◌, subst}
use Rattle.arith.specs.Flow.{go}
use Rattle.vectors.specs.declared.vector.Vec3.{Vec3}
use Rattle.vectors.specs.declared.matrix.Mat3.{Mat3}
use Rattle.rows.specs.declared.body.RigidBody.{RigidBody}
use Rattle.rows.specs.declared.body.MomentumBody.{MomentumBody}
use Rattle.rows.specs.Body.{new_of, kick_of, drift_of}
use Rattle.rows.specs.Laws.Results.{step, go_same}

pub record SamePlace (a b : MomentumBody) : Type 0 where
  pub center-is : a.center ≡ b.center
  pub rotation-is : a.rotation ≡ b.rotation
  pub local-is : a.center_of_mass ≡ b.center_of_mass

pub same_place : (a : MomentumBody) → SamePlace a a
same_place a = record { center-is = refl; rotation-is = refl; local-is = refl }

pub same_then : (a b c : MomentumBody) → SamePlace a b → SamePlace b c → SamePlace a c
same_then a b c s t = record { center-is = s.center-is ∙ t.center-is; rotation-is = s.rotation-is ∙ t.rotation-is; local-is = s.local-is ∙ t.local-is }

pub kick-place : (a : MomentumBody) (linear angular : Vec3) (b : MomentumBody) → kick_of a linear angular ≡ go b → SamePlace a b
unfolding kick_of
kick-place a linear angular b h =
    let r₁ = step _ _ b h in
    let r₂ = step _ _ b r₁.2 in
    subst (SamePlace a) (go_same _ b r₂.2) (record { center-is = refl; rotation-is = refl; local-is = refl })

pub drift-local : (a : MomentumBody) (dt : Float) (b : MomentumBody) → drift_of a dt ≡ go b → a.center_of_mass ≡ b.center_of_mass
unfolding drift_of
drift-local a dt b h =
    let r₁ = step _ _ b h in
    let r₂ = step _ _ b r₁.2 in
    let r₃ = step _ _ b r₂.2 in
    ap (λ (m : MomentumBody). m.center_of_mass) (go_same _ b r₃.2)

pub new-local : (body : RigidBody) (inverse : Mat3) (b : MomentumBody) → new_of body inverse ≡ go b → body.center_of_mass ≡ b.center_of_mass
unfolding new_of
new-local body inverse b h =
    let r₁ = step _ _ b h in
    let r₂ = step _ _ b r₁.2 in
    let r₃ = step _ _ b r₂.2 in
    let r₄ = step _ _ b r₃.2 in
    ap (λ (m : MomentumBody). m.center_of_mass) (go_same _ b r₄.2)
