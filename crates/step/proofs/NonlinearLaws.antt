-- A pass of the nonlinear loop and the loop's start: from the calls' contracts and what stays between them to the definition's run (PassLaws).
use Rattle.std.specs.Prelude.{ℕ, ◌+◌, ◌≤◌, ◌≡◌, Bool, true, false, List, length, replicate, Float}
use Rattle.std.proofs.Common.{sym, ◌∙◌, ap, arith}
use Rattle.std.proofs.lemmas.List.{length-replicate, get_or-replicate}
use Rattle.arith.specs.Words.{nan}
use Rattle.arith.specs.Real.{ratio}
use Rattle.arith.specs.Flow.{Turn, go, stop, tab}
use Rattle.arith.specs.Run.{after, up_to}
use Rattle.rows.specs.Fault.{CollisionError, NonConvergent, Result}
use Rattle.rows.specs.View.{Kept}
use Rattle.rows.specs.Region.{tab-length, is-tab, kept_refl, kept_then, kept_more}
use Rattle.solves.specs.declared.joined.Rows.{Rows}
use Rattle.solves.specs.Layout.{ROW_TABLE}
use Rattle.solves.specs.Region.{Filled, Does}
use Rattle.solves.specs.RegionLaws.{kept-vec, filled-vec}
use Rattle.solves.specs.Search.{linear_solve}
use Rattle.solves.specs.View.{ROWS, RHS, Beside, row_on, count_of, system_at, rhs_at}
use Rattle.step.specs.declared.passes.Counts.{Counts}
use Rattle.step.specs.Layout.{IMPULSES}
use Rattle.step.specs.Bodies.{Job, Found, rows_met, rhs_of, add_impulses, candidate_of}
use Rattle.step.specs.TurnLaws.{correction}
use Rattle.step.specs.Step.{nonlinear_pass, nonlinear_loop}
use Rattle.step.specs.RunView.{impulses_at, started_at, found_at, Trying, Goes}
use Rattle.step.proofs.LoopLaws.{kept-started}
use Rattle.step.proofs.PassLaws.{begins, fails, goes-then, leaves, goes-on, goes-is}

-- ---- a pass
module _ (job : Job) (rows : Rows) (apart : rows.place + ROW_TABLE ≤ ROWS) (s s₁ : List Float) (c : Counts) where
  abbrev begun : Counts
  begun = record { nonlinear = c.nonlinear + 1; linear = c.linear }

  abbrev Turns : List Float → Counts → Result (Turn (List Float) Found) → Type 0
  Turns u now y = Goes Trying s u c now y (nonlinear_pass job (started_at s rows) (impulses_at s rows))

  abbrev Finds : Result Found → Type 0
  Finds x = Does Trying s s₁ x (candidate_of job (started_at s rows) (impulses_at s rows))

  pub not-found : {e : CollisionError} → Finds (stop e) → Turns s₁ begun (stop e)
  unfolding nonlinear_pass
  not-found d = begins (fails _ d)

  module _ (d : Finds (go (found_at s₁ rows))) {b : Bool} (eb : b ≡ rows_met (found_at s₁ rows).rows) where
    pub found-met : b ≡ true → Turns s₁ begun (go (stop (found_at s₁ rows)))
    unfolding nonlinear_pass
    found-met h = begins (goes-then _ d (leaves _ _ (sym eb ∙ h) (kept_refl Trying s₁)))

    pub found-unmet : b ≡ false → impulses_at s₁ rows ≡ impulses_at s rows → {s₂ : List Float}
        → Does (Beside RHS) s₁ s₂ (rhs_at s₂ rows) (rhs_of job.dt (found_at s₁ rows).rows)
        → {u : List Float} {now : Counts} {y : Result (Turn (List Float) Found)} → Goes Trying s₂ u begun now y
        (correction (linear_solve job.cyclic (system_at s₂ rows) (rhs_at s₂ rows)) (add_impulses (impulses_at s₂ rows)))
        → Turns u now y
    unfolding nonlinear_pass
    found-unmet h same {s₂} f g = begins (goes-then _ d (goes-on _ _ (sym eb ∙ h) (record {
      kept = kept_then filled g.kept (λ i x. x);
      is = g.is ∙ λ j. after (c.nonlinear + 1) c.linear (correction (linear_solve job.cyclic (stays j).system (f.is j))
          (add_impulses ((kept-vec f.kept IMPULSES (count_of rows) (λ i a b. omega (arith, rows.few_rows)) ∙ same) j)));
    })))
      where
        filled : Kept Trying s₁ s₂
        filled = kept_more f.kept (λ i x. omega (arith, x.1))

        stays : started_at s₂ rows ≡ started_at s rows
        stays = kept-started (kept_then d.kept filled (λ i x. x)) rows apart (λ i x. x)

-- ---- the nonlinear loop: from no impulse
zeros : (n : ℕ) (x : Float) → tab n (λ _. x) ≡ replicate n x
zeros n x = sym (is-tab n (λ _. x) nan (replicate n x) (length-replicate n x) (λ k h. get_or-replicate n k x nan h))

pub from-none : (job : Job) (rows : Rows) → rows.place + ROW_TABLE ≤ ROWS
    → {s s₁ u : List Float} {before now : Counts} {x : Result Found} → Filled IMPULSES (count_of rows) (λ _. ratio 0 1) s s₁
    → Goes Trying s₁ u before now x (up_to 32 NonConvergent (nonlinear_pass job (started_at s₁ rows)) (impulses_at s₁ rows))
    → Goes Trying s u before now x (nonlinear_loop job (started_at s rows))
unfolding nonlinear_loop
from-none job rows apart {s} {s₁} f g = goes-is (record { kept = kept_then filled g.kept (λ i x. x); is = g.is })
    (λ j. up_to 32 NonConvergent (nonlinear_pass job (kept-started filled rows apart (λ i x. x) j)) (none j))
  where
    filled : Kept Trying s s₁
    filled = kept_more f.kept (λ i x. omega (arith, x.1))

    none : impulses_at s₁ rows ≡ replicate (length (system_at s rows).rows) (ratio 0 1)
    none =
        filled-vec f ∙ zeros (count_of rows) (ratio 0 1) ∙ ap (λ (m : ℕ). replicate m (ratio 0 1))
        (sym (tab-length (count_of rows) (row_on rows.a.now rows.b.now s rows.place)))
