-- Stores one behind the other (`store_fixed`, `store_start`), and states handed back one by one (`write_states`).
use Rattle.std.specs.Prelude.{ℕ, ◌+◌, ◌*◌, ◌≤◌, ◌<◌, ◌≡◌, List, length, set, Float}
use Rattle.std.proofs.Common.{◌∙◌, ap, arith, get_or-set_same}
use Rattle.std.proofs.Math.Decide.{ℕ_discrete}
use Rattle.std.specs.Float.{nan}
use Rattle.rows.specs.declared.body.BodyState.{BodyState}
use Rattle.rows.specs.declared.body.MomentumBody.{MomentumBody}
use Rattle.rows.specs.Body.{state_with}
use Rattle.rows.specs.View.{vec3_at, Out, Kept}
use Rattle.rows.specs.Region.{kept_set, kept_refl, kept_then, kept_more, kept-vec3}
use Rattle.step.specs.Layout.{CANDIDATE}
use Rattle.step.specs.Records.{mat_at}
use Rattle.step.specs.View.{cols_of, Fixed, fixed_at, fixed_of, body_from, held_of, state_at, Handed}
use Rattle.step.specs.ViewLaws.{kept-quat, kept-mat, kept-state}

-- store_fixed
pub stored-fixed : {s t u : List Float} (i : ℕ) (body : MomentumBody) → i + 13 ≤ length u
    → (Kept (λ j. Out (i + 1) 3 j) s t) × (vec3_at t (i + 1) ≡ body.center_of_mass)
    → (Kept (λ j. Out (i + 4) 9 j) t u) × (mat_at u (i + 4) ≡ cols_of body.inverse_inertia)
    → (Kept (λ j. Out i 13 j) s (set u i body.mass)) × (fixed_at (set u i body.mass) i ≡ fixed_of body)
stored-fixed {s} {t} {u} i body h x y = (
  kept_then (kept_then (kept_more x.0 (λ j q. omega arith)) y.0 (λ j q. omega arith)) last (λ j q. omega arith),
  λ j. record { mass = get_or-set_same u i body.mass nan (omega arith) j; center-of-mass = middle j; inverse-inertia = inverse j },
)
  where
    last : Kept (λ j. Out i 1 j) u (set u i body.mass)
    last = kept_set u i body.mass

    middle : vec3_at (set u i body.mass) (i + 1) ≡ body.center_of_mass
    middle = kept-vec3 last (i + 1) (λ k h l. omega arith) ∙ kept-vec3 y.0 (i + 1) (λ k h l. omega arith) ∙ x.1

    inverse : mat_at (set u i body.mass) (i + 4) ≡ cols_of body.inverse_inertia
    inverse = kept-mat last (i + 4) (λ k h l. omega arith) ∙ y.1

-- store_start
pub stored-start : {s t u : List Float} (i : ℕ) (body : MomentumBody)
    → (Kept (λ j. Out i 13 j) s t) × (state_at t i ≡ state_with body.center body.rotation body.momentum body.spin)
    → (Kept (λ j. Out (i + 13) 13 j) t u) × (fixed_at u (i + 13) ≡ fixed_of body)
    → (Kept (λ j. Out i 26 j) s u) × (body_from u i i ≡ held_of body)
stored-start {s} {t} {u} i body x y = (
  kept_then (kept_more x.0 (λ j q. omega arith)) y.0 (λ j q. omega arith),
  λ j. record {
    center = (kept-vec3 y.0 i (λ k h l. omega arith) ∙ ap (λ (m : BodyState). m.origin) x.1) j;
    rotation = (kept-quat y.0 (i + 3) (λ k h l. omega arith) ∙ ap (λ (m : BodyState). m.rotation) x.1) j;
    momentum = (kept-vec3 y.0 (i + 7) (λ k h l. omega arith) ∙ ap (λ (m : BodyState). m.linear_velocity) x.1) j;
    spin = (kept-vec3 y.0 (i + 10) (λ k h l. omega arith) ∙ ap (λ (m : BodyState). m.angular_velocity) x.1) j;
    mass = ap (λ (m : Fixed). m.mass) y.1 j;
    center_of_mass = (ap (vec3_at u) shift ∙ ap (λ (m : Fixed). m.center-of-mass) y.1) j;
    inverse_inertia = (ap (mat_at u) shift-mat ∙ ap (λ (m : Fixed). m.inverse-inertia) y.1) j;
  },
)
  where
    shift : i + 14 ≡ i + 13 + 1
    shift = omega arith

    shift-mat : i + 17 ≡ i + 13 + 4
    shift-mat = omega arith

-- write_states
pub handed-none : {s bodies : List Float} → Handed 0 s bodies bodies
handed-none {s} {bodies} = record { kept = kept_refl _ bodies; there = λ k h. absurd (omega arith) }

pub handed-more : {k : ℕ} {s b t u : List Float} {state : BodyState} → Handed k s b t
    → (Kept (λ j. Out (26 * k) 13 j) t u) × (state_at u (26 * k) ≡ state) → state ≡ state_at s (CANDIDATE + 13 * k) → Handed (k + 1) s b u
handed-more {k} {s} {b} {t} {u} {state} h x e = record {
  kept = kept_then (kept_more h.kept (λ i p j q. p j (omega arith))) x.0 (λ i p. p k (omega arith));
  there = λ j q. case j q (ℕ_discrete j k);
}
  where
    case : (j : ℕ) → j < k + 1 → Dec (j ≡ k) → state_at u (26 * j) ≡ state_at s (CANDIDATE + 13 * j)
    case j q (yes r) = rw r (x.1 ∙ e)
    case j q (no r) = kept-state x.0 (26 * j) (λ i a c. omega arith) ∙ h.there j (omega arith)

pub handed-end : {body-count k : ℕ} {s b t : List Float} → k ≤ body-count → body-count ≤ k → Handed k s b t → Handed body-count s b t
handed-end {body-count} {k} {s} {b} {t} a c h = record {
  kept = kept_more h.kept (λ i p j q. p j (omega arith));
  there = λ j q. h.there j (omega arith);
}
