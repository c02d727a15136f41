-- From an answer `go` of the run back to what led to it, link by link: the candidate whose rows were met, and the bodies that the states are of,
-- which stand where that candidate stood.
use Rattle.std.specs.Prelude.{ℕ, ◌<◌, ◌≡◌, refl, true, List, length, Float}
use Rattle.std.proofs.Common.{sym, ◌∙◌}
use Rattle.std.proofs.Math.Path.{ap, subst}
use Rattle.arith.specs.Flow.{go, stop}
use Rattle.arith.specs.RunLaws.{ends-then, left-if, not_left}
use Rattle.arith.specs.UpToLaws.{left}
use Rattle.rows.specs.declared.body.RigidBody.{RigidBody}
use Rattle.rows.specs.declared.body.BodyState.{BodyState}
use Rattle.rows.specs.declared.body.MomentumBody.{MomentumBody}
use Rattle.rows.specs.declared.geometry.Joint.{Joint}
use Rattle.rows.specs.declared.geometry.EqualityRow.{EqualityRow}
use Rattle.rows.specs.Fault.{Result}
use Rattle.rows.specs.Body.{kick_of, drift_of}
use Rattle.rows.specs.Laws.Results.{step, go_same}
use Rattle.rows.specs.Laws.SamePlace.{SamePlace, same_place, same_then, kick-place, drift-local, new-local}
use Rattle.solves.specs.declared.places.Generalized.{Generalized}
use Rattle.solves.specs.System.{System, Counting}
use Rattle.step.specs.Bodies.{Job, body_in, record_in, start_bodies, write_rows, Started, start_of, Found, kick_and_drift, move_bodies, rows_met}
use Rattle.step.specs.Bodies.{add_impulses, candidate_of, kick_bodies, reaction_of, states_of}
use Rattle.step.specs.View.{no_body}
use Rattle.step.specs.Step.{nonlinear_pass, nonlinear_loop, velocity_pass, velocity_loop, finish_of, run_of}
use Rattle.step.specs.TurnLaws.{correction, each_at, went_on, goes_with}

-- a correction is never a loop's answer
never-left : {A B : Type 0} (solve : Counting (List Float)) (make : List Float → Result A) (b : B) → (correction solve make).ends ≡ go (stop b) → ⊥
never-left solve make b h =
    let r₁ = ends-then _ _ _ h in
    let r₂ = ends-then _ _ _ r₁.2 in
    not_left _ _ r₂.2

-- ---- the nonlinear loop
module _ (job : Job) (start : Started) where
  pass-found : (impulses : List Float) (found : Found) → (nonlinear_pass job start impulses).ends ≡ go (stop found)
      → (candidate_of job start impulses ≡ go found) × (rows_met found.rows ≡ true)
  unfolding nonlinear_pass
  pass-found impulses found h =
      let r₁ = ends-then _ _ _ h in
      let r₂ = ends-then _ _ _ r₁.2 in
      let r₃ = left-if _ _ found _ (never-left _ (add_impulses impulses) found) r₂.2 in
      (r₂.1 ∙ ap go r₃.1, ap (λ (f : Found). rows_met f.rows) (sym r₃.1) ∙ r₃.0)

  pub loop-found : (found : Found) → (nonlinear_loop job start).ends ≡ go found
      → (impulses : List Float) × (candidate_of job start impulses ≡ go found) × (rows_met found.rows ≡ true)
  unfolding nonlinear_loop
  loop-found found h =
      let m = left (nonlinear_pass job start) (λ _. Unit {0}) (λ a b p e. tt) 32 _ _ found tt h in
      let p = pass-found m.before found m.is in
      (m.before, p.0, p.1)

-- ---- the velocity loop moves no body
pub record Stay (a b : List MomentumBody) : Type 0 where
  pub size : length b ≡ length a
  pub same : (k : ℕ) → k < length a → SamePlace (body_in a k) (body_in b k)

stay_then : (a b c : List MomentumBody) → Stay a b → Stay b c → Stay a c
stay_then a b c s t =
    record {
      size = t.size ∙ s.size;
      same = λ k l. same_then (body_in a k) (body_in b k) (body_in c k) (s.same k l) (t.same k (subst (λ (n : ℕ). k < n) (sym s.size) l));
    }

kicked : (a : List MomentumBody) (generalized : List Generalized) (b : List MomentumBody) → kick_bodies a generalized ≡ go b → Stay a b
unfolding kick_bodies
kicked a generalized b h =
    let E = each_at (length a) _ b h in
    record { size = E.size; same = λ k l. kick-place (body_in a k) _ _ (body_in b k) (E.at no_body k l) }

module _ (job : Job) (system : System) where
  reacted : (a : List MomentumBody) (solution : List Float) (b : List MomentumBody) → reaction_of system.rows a solution ≡ go b → Stay a b
  unfolding reaction_of
  reacted a solution b h =
      let r = step _ _ b h in
      kicked a r.0 b r.2

  pass-stays : (a b : List MomentumBody) → (velocity_pass job system a).ends ≡ go (go b) → Stay a b
  unfolding velocity_pass
  pass-stays a b h =
      let r₁ = ends-then _ _ _ h in
      let r₂ = ends-then _ _ _ (went_on _ _ b _ r₁.2) in
      let r₃ = ends-then _ _ _ r₂.2 in
      subst (Stay a) (goes_with _ b r₃.2) (reacted a r₂.0 r₃.0 r₃.1)

  pass-left : (a b : List MomentumBody) → (velocity_pass job system a).ends ≡ go (stop b) → a ≡ b
  unfolding velocity_pass
  pass-left a b h =
      let r = ends-then _ _ _ h in
      (left-if _ _ b _ (never-left _ (reaction_of system.rows a) b) r.2).1

  pub loop-stays : (a b : List MomentumBody) → (velocity_loop job system a).ends ≡ go b → Stay a b
  unfolding velocity_loop
  loop-stays a b h =
      let here : Stay a a = record { size = refl; same = λ k l. same_place (body_in a k) } in
      let m = left (velocity_pass job system) (Stay a) (λ x y s e. stay_then a x y s (pass-stays x y e)) 3 _ a b here h in
      subst (Stay a) (pass-left m.before b m.is) m.holds

-- ---- local centres are those of the records
pub record Locals (bodies : List RigidBody) (b : List MomentumBody) : Type 0 where
  pub size : length b ≡ length bodies
  pub same : (k : ℕ) → k < length bodies → (record_in bodies k).center_of_mass ≡ (body_in b k).center_of_mass

module _ (bodies : List RigidBody) where
  locals-then : (a b : List MomentumBody) → Locals bodies a → length b ≡ length a
      → ((k : ℕ) → k < length a → (body_in a k).center_of_mass ≡ (body_in b k).center_of_mass) → Locals bodies b
  locals-then a b s e f = record { size = e ∙ s.size; same = λ k l. s.same k l ∙ f k (subst (λ (n : ℕ). k < n) (sym s.size) l) }

  start-locals : (start : List MomentumBody) → start_bodies bodies ≡ go start → Locals bodies start
  unfolding start_bodies
  start-locals start h =
      let E = each_at (length bodies) _ start h in
      record { size = E.size; same = λ k l. new-local (record_in bodies k) _ (body_in start k) (E.at no_body k l) }

  drifted : (dt : Float) (a : MomentumBody) (kick : Generalized) (b : MomentumBody) → kick_and_drift dt a kick ≡ go b
      → a.center_of_mass ≡ b.center_of_mass
  drifted dt a kick b h =
      let r = step (kick_of a kick.linear kick.angular) (λ (x : MomentumBody). drift_of x dt) b h in
      (kick-place a _ _ r.0 r.1).local-is ∙ drift-local r.0 dt b r.2

  move-locals : (dt : Float) (start : List MomentumBody) (generalized : List Generalized) (candidate : List MomentumBody)
      → move_bodies dt start generalized ≡ go candidate → Locals bodies start → Locals bodies candidate
  unfolding move_bodies
  move-locals dt start generalized candidate h s =
      let E = each_at (length start) _ candidate h in
      locals-then start candidate s E.size (λ k l. drifted dt (body_in start k) _ (body_in candidate k) (E.at no_body k l))

-- ---- the run
start-of : (job : Job) (bodies : List RigidBody) (start : Started) → start_of job bodies ≡ go start → start_bodies bodies ≡ go start.bodies
unfolding start_of
start-of job bodies start h =
    let r₁ = step _ _ start h in
    let r₂ = step _ _ start r₁.2 in
    let r₃ = step _ _ start r₂.2 in
    r₁.1 ∙ ap (λ (s : Started). go s.bodies) (go_same _ start r₃.2)

candidate-of : (job : Job) (start : Started) (impulses : List Float) (found : Found) → candidate_of job start impulses ≡ go found
    → (generalized : List Generalized) × (move_bodies job.dt start.bodies generalized ≡ go found.candidate) ×
    (write_rows job.joints job.count found.candidate ≡ go found.rows)
unfolding candidate_of
candidate-of job start impulses found h =
    let r₁ = step _ _ found h in
    let r₂ = step _ _ found r₁.2 in
    let r₃ = step _ _ found r₂.2 in
    let e = go_same _ found r₃.2 in (
      r₁.0,
      subst (λ (f : Found). move_bodies job.dt start.bodies r₁.0 ≡ go f.candidate) e r₂.1,
      subst (λ (f : Found). write_rows job.joints job.count f.candidate ≡ go f.rows) e r₃.1,
    )

finished : (job : Job) (bodies : List RigidBody) (found : Found) (states : List BodyState) → (finish_of job bodies found).ends ≡ go states
    → (last : List MomentumBody) × Stay found.candidate last × (states_of bodies last ≡ go states)
unfolding finish_of
finished job bodies found states h =
    let r₁ = ends-then _ _ _ h in
    let r₂ = ends-then _ _ _ r₁.2 in
    (r₂.0, loop-stays job _ found.candidate r₂.0 r₂.1, r₂.2)

pub record Traced (bodies : List RigidBody) (joints : List Joint) (count : ℕ) (states : List BodyState) : Type 0 where
  -- the candidate that met its rows
  pub candidate : List MomentumBody
  pub rows : List EqualityRow
  pub rows_are : write_rows joints count candidate ≡ go rows
  pub rows-met : rows_met rows ≡ true
  -- the bodies that the states are of
  pub last : List MomentumBody
  pub stay : Stay candidate last
  pub locals : Locals bodies last
  pub states-are : states_of bodies last ≡ go states

pub ran : (job : Job) (bodies : List RigidBody) (states : List BodyState) → (run_of job bodies).ends ≡ go states
    → Traced bodies job.joints job.count states
unfolding run_of
ran job bodies states h =
    let r₁ = ends-then _ _ _ h in
    let r₂ = ends-then _ _ _ r₁.2 in
    let start = r₁.0 in
    let found = r₂.0 in
    let l = loop-found job start found r₂.1 in
    let f = candidate-of job start l.0 found l.1 in
    let e = finished job bodies found states r₂.2 in
    let begun = start-locals bodies start.bodies (start-of job bodies start r₁.1) in
    let moved = move-locals bodies job.dt start.bodies f.0 found.candidate f.1 begun in
    record {
      candidate = found.candidate;
      rows = found.rows;
      rows_are = f.2;
      rows-met = l.2;
      last = e.0;
      stay = e.1;
      locals = locals-then bodies found.candidate e.0 moved e.1.size (λ k l. (e.1.same k l).local-is);
      states-are = e.2;
    }
