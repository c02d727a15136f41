-- The end of a run and the run as a whole, from the calls' contracts link by link; and what the run is to the caller.
use Rattle.std.specs.Prelude.{ℕ, ◌+◌, ◌*◌, ◌-◌, ◌%◌, ◌≤◌, ◌<◌, ◌≡◌, refl, Bool, true, false, cond, List, [], ◌++◌}
use Rattle.std.specs.Prelude.{length, drop, replicate, Float}
use Rattle.std.proofs.Common.{sym, ◌∙◌, ap, arith}
use Rattle.std.proofs.lemmas.List.{length-replicate, get_or-replicate}
use lib.Seq.{ext_get_or}
use Rattle.arith.specs.Words.{nan}
use Rattle.arith.specs.Real.{ratio}
use Rattle.arith.specs.Flow.{Turn, go, stop, leaving, every}
use Rattle.arith.specs.FlowLaws.{cond_yes, cond_no}
use Rattle.arith.specs.Run as Run
use Rattle.arith.specs.Run.{ran, try, up_to}
use Rattle.arith.specs.RunLaws.{after_none}
use Rattle.rows.specs.declared.body.RigidBody.{RigidBody}
use Rattle.rows.specs.declared.body.BodyState.{BodyState}
use Rattle.rows.specs.declared.body.MomentumBody.{MomentumBody}
use Rattle.rows.specs.declared.geometry.Joint.{Joint}
use Rattle.rows.specs.Fault.{CollisionError, Result, NonConvergent}
use Rattle.rows.specs.View.{at, vec3_at, Out}
use Rattle.rows.specs.Region.{tab-length, tab-at, kept_more}
use Rattle.solves.specs.declared.joined.Rows.{Rows}
use Rattle.solves.specs.declared.places.MassResponse.{MassResponse}
use Rattle.solves.specs.Layout.{MASS_TABLE, ROW_TABLE}
use Rattle.solves.specs.Region.{Filled, Does}
use Rattle.solves.specs.System.{Counting}
use Rattle.solves.specs.DoesLaws.{does-more}
use Rattle.solves.specs.View.{Table, ROWS, MASSES, masses_at, system_on, count_of}
use Rattle.solves.specs.ViewLaws.{kept-rows}
use Rattle.step.specs.declared.Refusal.{Refusal}
use Rattle.step.specs.declared.Refusal.TheVariants as Refusals
use Rattle.step.specs.declared.passes.Counts.{Counts}
use Rattle.step.specs.Layout.{IMPULSES, CANDIDATE, STATES, SCRATCH, USED}
use Rattle.step.specs.Records.{count_of_bodies}
use Rattle.step.specs.Checks.{within_of}
use Rattle.step.specs.View.{candidates_at, states_at, Handed, state_at, no_state}
use Rattle.step.specs.ViewLaws.{kept-candidates}
use Rattle.step.specs.BackLaws.{handed-back}
use Rattle.step.specs.Bodies.{Job, Started, start_of, Found, prepare_masses, states_of, state_in}
use Rattle.step.specs.Step.{nonlinear_pass, nonlinear_loop, velocity_pass, velocity_loop, finish_of, run_of, Stepped, stepped, fault_outcome, grounded, cleared}
use Rattle.step.specs.Step.{concluded}
use Rattle.step.specs.RunView.{impulses_at, started_at, found_at, job_for, Trying, Correcting, Goes}
use Rattle.arith.specs.ChainLaws.{every-ext}
use Rattle.step.proofs.PassLaws.{fails, goes-here, goes-is, goes-more, goes-then, run-fails, run-then}
use Rattle.step.proofs.NonlinearLaws.{from-none}

-- the same rows of the candidates, for the velocity loop
abbrev candidate_table : Rows → Table
candidate_table rows = record { place = ROWS; rows = count_of rows; bodies = rows.bodies }

-- ---- finish_run
module _ (joints : List Joint) (dt : Float) (cyclic : Bool) (bodies : List RigidBody) (rows : Rows) (s s₁ : List Float) (before : Counts) where
  abbrev job : Job
  job = job_for joints dt cyclic

  abbrev Finishes : List Float → Counts → Result (List BodyState) → Type 0
  Finishes u now x = Goes (Out MASSES (USED - MASSES)) s u before now x (finish_of job bodies (found_at s rows))

  abbrev Weighs : Result (List MassResponse) → Type 0
  Weighs x = Does (Out MASSES MASS_TABLE) s s₁ x (prepare_masses (candidates_at s rows.bodies))

  pub not-weighed : {e : CollisionError} → Weighs (stop e) → Finishes s₁ before (stop e)
  unfolding finish_of
  not-weighed d = fails _ (does-more (λ i x. omega arith) d)

  module _ (d₁ : Weighs (go (masses_at s₁ MASSES rows.bodies))) (s₂ : List Float) (between : Counts) where
    -- the velocity loop as the code ran it: over the candidates' rows where they stand, without joints and time step
    abbrev Rests : Result (List MomentumBody) → Type 0
    Rests x = Goes Correcting s₁ s₂ before between x (up_to 3 NonConvergent
        (velocity_pass (job_for [] nan cyclic) (system_on rows.a.now rows.b.now s₁ (candidate_table rows))) (candidates_at s₁ rows.bodies))

    abbrev loop : Counting (List MomentumBody)
    loop = velocity_loop job (record { rows = (found_at s rows).rows; masses = masses_at s₁ MASSES rows.bodies }) (candidates_at s rows.bodies)

    rests : {x : Result (List MomentumBody)} → Rests x → Goes (Out MASSES (USED - MASSES)) s₁ s₂ before between x loop
    unfolding velocity_loop velocity_pass
    rests g = goes-more (λ i x. (omega arith, omega arith)) (goes-is g (λ j. velocity_loop job
        (record {
          rows = kept-rows d₁.kept rows.a.now rows.b.now ROWS (count_of rows) (λ i a b. omega (arith, rows.few_rows)) j;
          masses = masses_at s₁ MASSES rows.bodies;
        })
        (kept-candidates d₁.kept rows.bodies (λ i a b. omega (arith, rows.few_bodies)) (λ i a b. omega (arith, rows.few_bodies)) j)))

    weighed : Does (Out MASSES (USED - MASSES)) s s₁ (go (masses_at s₁ MASSES rows.bodies)) (prepare_masses (candidates_at s rows.bodies))
    weighed = does-more (λ i x. omega arith) d₁

    pub not-rested : {e : CollisionError} → Rests (stop e) → Finishes s₂ between (stop e)
    unfolding finish_of
    not-rested g = goes-then _ weighed (run-fails _ (rests g))

    pub all-finished : Rests (go (candidates_at s₂ rows.bodies)) → {s₃ : List Float} (r : Result (Unit {0}))
        → Does (Out CANDIDATE STATES) s₂ s₃ (leaving r (states_at s₃ rows.bodies)) (states_of bodies (candidates_at s₂ rows.bodies))
        → Finishes s₃ between (leaving r (states_at s₃ rows.bodies))
    unfolding finish_of
    all-finished g {s₃} r d₃ = goes-then _ weighed (run-then _ (rests g) (goes-is (goes-here {t = leaving r (states_at s₃ rows.bodies)}
        (kept_more d₃.kept (λ i x. omega arith))) (ap try d₃.is)))

-- ---- run
module _ (job : Job) (bodies : List RigidBody) (rows : Rows) (s s₁ : List Float) (before : Counts) where
  abbrev Runs : List Float → Counts → Result (List BodyState) → Type 0
  Runs u now x = Goes (Out 0 USED) s u before now x (run_of job bodies)

  abbrev Starts : Result Started → Type 0
  Starts x = Does (Out 0 USED) s s₁ x (start_of job bodies)

  pub not-started : {e : CollisionError} → Starts (stop e) → Runs s₁ before (stop e)
  unfolding run_of
  not-started d = fails _ d

  module _ (d₁ : Starts (go (started_at s₁ rows))) (apart : rows.place + ROW_TABLE ≤ ROWS) (s₁' s₂ : List Float)
      (f : Filled IMPULSES (count_of rows) (λ _. ratio 0 1) s₁ s₁') (between : Counts) where
    abbrev Meets : Result Found → Type 0
    Meets x = Goes Trying s₁' s₂ before between x (up_to 32 NonConvergent (nonlinear_pass job (started_at s₁' rows)) (impulses_at s₁' rows))

    meets : {x : Result Found} → Meets x → Goes (Out 0 USED) s₁ s₂ before between x (nonlinear_loop job (started_at s₁ rows))
    meets g = goes-more (λ i x. (omega arith, omega arith, omega arith)) (from-none job rows apart f g)

    pub not-met : {e : CollisionError} → Meets (stop e) → Runs s₂ between (stop e)
    unfolding run_of
    not-met g = goes-then _ d₁ (run-fails _ (meets g))

    pub all-run : Meets (go (found_at s₂ rows)) → {s₃ : List Float} {now : Counts} {x : Result (List BodyState)}
        → Goes (Out MASSES (USED - MASSES)) s₂ s₃ between now x (finish_of job bodies (found_at s₂ rows)) → Runs s₃ now x
    unfolding run_of
    all-run g d₃ = goes-then _ d₁ (run-then _ (meets g) (goes-more (λ i x. omega arith) d₃))

-- ---- conclude
module _ (body-count : ℕ) (s bodies : List Float) where
  abbrev states : List BodyState
  states = states_at s body-count

  ground-is : every body-count (λ k. within_of (vec3_at s (CANDIDATE + 13 * k)) (ratio 8192 1)) ≡ grounded states
  unfolding grounded
  ground-is =
      every-ext (λ k. within_of (vec3_at s (CANDIDATE + 13 * k)) (ratio 8192 1)) (λ k. within_of (state_in states k).origin (ratio 8192 1)) body-count
      (λ k h. ap (λ (x : BodyState). within_of x.origin (ratio 8192 1)) (sym (tab-at body-count (λ j. state_at s (CANDIDATE + 13 * j)) no_state k h)))
      ∙ ap (λ (m : ℕ). every m (λ k. within_of (state_in states k).origin (ratio 8192 1))) (sym (tab-length body-count (λ j. state_at s (CANDIDATE + 13 * j))))

  -- the run failed, and so does the step
  pub conclude-fails : {r : Result (Unit {0})} {f : CollisionError} → r ≡ stop f → {outcome : Turn (Unit {0}) Refusal} → outcome ≡ fault_outcome f
      → (nonlinear linear : ℕ) (scratch : List Float)
      → stepped outcome nonlinear linear bodies scratch ≡ concluded bodies scratch (ran (leaving r states) nonlinear linear)
  conclude-fails q e nonlinear linear scratch =
      ap (λ (o : Turn (Unit {0}) Refusal). stepped o nonlinear linear bodies scratch) e
      ∙ ap (λ (x : Result (Unit {0})). concluded bodies scratch (ran (leaving x states) nonlinear linear)) (sym q)

  module _ {b : Bool} (e : b ≡ every body-count (λ k. within_of (vec3_at s (CANDIDATE + 13 * k)) (ratio 8192 1))) {r : Result (Unit {0})} {u : Unit {0}}
      (q : r ≡ go u)
      (nonlinear linear : ℕ) (scratch : List Float) where
    -- in the case that the run went through
    done : concluded bodies scratch (ran (go states) nonlinear linear) ≡ concluded bodies scratch (ran (leaving r states) nonlinear linear)
    done = ap (λ (x : Result (Unit {0})). concluded bodies scratch (ran (leaving x states) nonlinear linear)) (sym q)

    pub conclude-accepts : b ≡ true → body-count ≡ count_of_bodies bodies → length bodies % 26 ≡ 0 → {after : List Float} → Handed body-count s bodies after
        → stepped (go tt) nonlinear linear after scratch ≡ concluded bodies scratch (ran (leaving r states) nonlinear linear)
    conclude-accepts t c w h =
        ap (λ (a : List Float). stepped (go tt) nonlinear linear a scratch) (handed-back body-count s c w h)
        ∙ cond_yes {b = grounded states} _ _ (sym (sym t ∙ e ∙ ground-is)) ∙ done

    pub conclude-grounds : b ≡ false
        → stepped (stop Refusals.Ground) nonlinear linear bodies scratch ≡ concluded bodies scratch (ran (leaving r states) nonlinear linear)
    conclude-grounds t = cond_no {b = grounded states} _ _ (sym (sym t ∙ e ∙ ground-is)) ∙ done

-- the scratch of a run, cleared
pub all-zero : {s t : List Float} → length s ≡ SCRATCH → Filled 0 SCRATCH (λ _. ratio 0 1) s t → t ≡ replicate SCRATCH (ratio 0 1)
all-zero {s} {t} e f =
    ext_get_or nan t (replicate SCRATCH (ratio 0 1)) (f.kept.size ∙ e ∙ sym (length-replicate SCRATCH (ratio 0 1)))
    (λ k h. ap (at t) (let z : k ≡ 0 + k = omega arith in z) ∙ f.there k (inside k h) ∙ sym (get_or-replicate SCRATCH k (ratio 0 1) nan (inside k h)))
  where
    inside : (k : ℕ) → k < length t → k < SCRATCH
    inside k h = omega (arith, f.kept.size)

-- ---- solve_in
pub solved-in : (bodies : List Float) {run : Counting (List BodyState)} {P : ℕ → Type 0} {s t u : List Float} {before now : Counts}
    (answer : Result (Unit {0})) (left : List BodyState) → before.nonlinear ≡ 0 → before.linear ≡ 0
    → Goes P s t before now (leaving answer left) run → {outcome : Turn (Unit {0}) Refusal} {after : List Float}
    → ((nonlinear linear : ℕ) (scratch : List Float) → stepped outcome nonlinear linear after scratch ≡ concluded bodies scratch
    (ran (leaving answer left) nonlinear linear))
    → u ≡ replicate SCRATCH (ratio 0 1)
    → stepped outcome now.nonlinear now.linear after u ≡ concluded bodies (replicate SCRATCH (ratio 0 1)) run
solved-in bodies {run} {now = now} answer left zn zl g {outcome} {after} e z =
    ap (stepped outcome now.nonlinear now.linear after) z ∙ e now.nonlinear now.linear (replicate SCRATCH (ratio 0 1))
    ∙ ap (concluded bodies (replicate SCRATCH (ratio 0 1))) (g.is ∙ (λ i. Run.after (zn i) (zl i) run) ∙ after_none run)

-- the step's scratch is the run's, with what stands behind it
pub solved-scratch : (bodies scratch : List Float) (run : Counting (List BodyState)) {outcome : Turn (Unit {0}) Refusal} {nonlinear linear : ℕ}
    {after work : List Float}
    → stepped outcome nonlinear linear after work ≡ concluded bodies (replicate SCRATCH (ratio 0 1)) run
    → stepped outcome nonlinear linear after (work ++ drop SCRATCH scratch) ≡ concluded bodies (cleared scratch) run
unfolding cleared
solved-scratch bodies scratch run e = ap behind e ∙ moved run.ends
  where
    behind : Stepped → Stepped
    behind x = stepped x.outcome x.nonlinear x.linear x.bodies (x.scratch ++ drop SCRATCH scratch)

    counted : Result (List BodyState) → Counting (List BodyState)
    counted ends = ran ends run.nonlinear run.linear

    one : (b : Bool) (x y : Stepped) → behind (cond b x y) ≡ cond b (behind x) (behind y)
    one true x y = refl
    one false x y = refl

    moved : (ends : Result (List BodyState)) → behind (concluded bodies (replicate SCRATCH (ratio 0 1)) (counted ends))
        ≡ concluded bodies (replicate SCRATCH (ratio 0 1) ++ drop SCRATCH scratch) (counted ends)
    moved (stop x) = refl
    moved (go x) = one (grounded x) _ _
