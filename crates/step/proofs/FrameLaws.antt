-- A body that was loaded is the one of its list, where nothing was written over it since.
use Prim.Native.Nat.{ℕ, ◌+◌, ◌*◌, ◌≤◌, ◌<◌}
use mathlib.Core.Path.{◌≡◌, sym, ◌∙◌}
use mathlib.Core.Bool.{Bool, true, false, cond}
use mathlib.Core.List.{List}
use native.Mathlib.Omega.{arith}
use lib.Ieee.{Float}
use Rattle.rows.specs.declared.body.MomentumBody.{MomentumBody}
use Rattle.rows.specs.View.{Kept}
use Rattle.rows.specs.Region.{Over, tab-at}
use Rattle.step.specs.Layout.{START, CANDIDATE, BODIES, STATES}
use Rattle.step.specs.View.{start_body_at, candidate_at, start_bodies_at, candidates_at, no_body}
use Rattle.step.specs.ViewLaws.{kept-start, kept-candidate}
use Rattle.step.specs.Bodies.{body_in}
use Rattle.step.specs.RunView.{bodies_at}

module _ {P : ℕ → Type 0} {s t : List Float} (kept : Kept P s t) where
  pub candidate-in : (body-count k : ℕ) {body : MomentumBody} → Over P (CANDIDATE + 13 * k) 13 → Over P (START + 26 * k + 13) 13 → k < body-count
      → body ≡ candidate_at t k → body ≡ body_in (candidates_at s body-count) k
  candidate-in body-count k v w h e = e ∙ kept-candidate kept k v w ∙ sym (tab-at body-count (candidate_at s) no_body k h)

  pub start-in : (body-count k : ℕ) {body : MomentumBody} → Over P (START + 26 * k) 26 → k < body-count → body ≡ start_body_at t k
      → body ≡ body_in (start_bodies_at s body-count) k
  start-in body-count k w h e = e ∙ kept-start kept k w ∙ sym (tab-at body-count (start_body_at s) no_body k h)

  -- the one that load_moved loads
  pub body-in : Over P START BODIES → Over P CANDIDATE STATES → (moved : Bool) (body-count k : ℕ) → k < body-count → body-count ≤ 16 → {body : MomentumBody}
      → body ≡ cond moved (candidate_at t k) (start_body_at t k) → body ≡ body_in (bodies_at moved s body-count) k
  body-in v w true body-count k h l e = candidate-in body-count k (λ i a b. w i (omega arith) (omega arith)) (λ i a b. v i (omega arith) (omega arith)) h e
  body-in v w false body-count k h l e = start-in body-count k (λ i a b. v i (omega arith) (omega arith)) h e
