-- Whatever answers as the definition does is `Answered`: each way that `solve_of` goes, and for the accepted one demand 3, joint by joint.
use Rattle.std.specs.Prelude.{ℕ, ◌*◌, ◌/◌, ◌≤◌, ◌<◌, ◌≡◌, Bool, true, false, cond, ◌&&◌, List, T, length, Float}
use Rattle.std.proofs.Math.Path.{refl, ap, subst}
use Rattle.std.proofs.Common.{sym, ◌∙◌, subst₂, arith}
use Rattle.arith.specs.Real.{ratio}
use Rattle.arith.specs.Flow.{Turn, go, stop}
use Rattle.arith.specs.FlowLaws.{every-at}
use Rattle.vectors.specs.declared.vector.Vec3.{Vec3}
use Rattle.vectors.specs.Quaternion.{is_normalized_of}
use Rattle.vectors.specs.Laws.Tests.{both}
use Rattle.rows.specs.declared.body.RigidBody.{RigidBody}
use Rattle.rows.specs.declared.body.BodyState.{BodyState}
use Rattle.rows.specs.declared.geometry.Joint.{Joint}
use Rattle.rows.specs.declared.geometry.Motions.{Motions}
use Rattle.rows.specs.declared.geometry.Motions.TheVariants.{Rod, Frame}
use Rattle.rows.specs.Motions.{motions_of}
use Rattle.rows.specs.Fault.{CollisionError, NonConvergent, ArithmeticOverflow, number, Result}
use Rattle.rows.specs.Body.{state_with, state_of}
use Rattle.rows.specs.Region.{tab-length, tab-at}
use Rattle.rows.specs.ExactGeometry.{Met, Stands, Proper}
use Rattle.rows.specs.Laws.Anchors.{state_place}
use Rattle.rows.specs.Laws.RowsIn.{Each, rows-met, rows-each}
use Rattle.rows.specs.Laws.Met.{MotionsIn, stands, met}
use Rattle.rows.specs.Laws.Frames.{proper}
use Rattle.solves.specs.View.{no_row}
use Rattle.step.specs.declared.Refusal.{Refusal}
use Rattle.step.specs.declared.Refusal.TheVariants.{Ground}
use Rattle.step.specs.declared.Report.{Report}
use Rattle.step.specs.Layout.{RECORD}
use Rattle.step.specs.Records.{record_at, count_of_bodies, records_of}
use Rattle.step.specs.View.{state_at, no_state, no_record}
use Rattle.step.specs.Checks.{number_of, within_of, mass_in_range, body_in_range, frame_ok, motions_ok, joint_in, refusal_of}
use Rattle.step.specs.CheckLaws.{Unrefused, refused-number, accepted}
use Rattle.step.specs.NumberLaws.{motions-finite, within-table}
use Rattle.step.specs.Bodies.{body_in, record_in, state_in, joint_rows, write_rows, rows_met, states_of}
use Rattle.step.specs.Step.{Stepped, stepped, fault_outcome, grounded, hand_back, cleared, concluded, job_of, run_for, solve_of}
use Rattle.step.specs.BackLaws.{back-length, back-state}
use Rattle.step.specs.TurnLaws.{each_at}
use Rattle.step.specs.RunLaws.{Traced, ran}
use Rattle.step.specs.Answered.{AtEnds, Answered}

-- ---- tests that were passed
yes-T : {b : Bool} → b ≡ true → T b
yes-T e = subst T (sym e) tt

motions-in : (motions : Motions) → T (motions_ok motions) → MotionsIn motions
motions-in (Rod length) t = t
motions-in (Frame _ turning) t = tt

local-in : (body : RigidBody) → body_in_range body ≡ true → T (within_of body.center_of_mass (ratio 64 1))
local-in body e =
    let o = within_of body.origin (ratio 8192 1) in
    let c = within_of body.center_of_mass (ratio 64 1) in
    (both o c (both (o && c) (mass_in_range body.mass) (both (o && c && mass_in_range body.mass) (is_normalized_of body.rotation) (yes-T e)).0).0).1

-- ---- an accepted run: its joints, and its states
module _ (bodies : List Float) (joints : List Joint) (count : ℕ) (dt : Float) (scratch : ℕ) (ready : Unrefused bodies joints count dt scratch)
    (states : List BodyState) (r : Traced (records_of bodies) joints count states) (on-ground : grounded states ≡ true) where
  records : length (records_of bodies) ≡ count_of_bodies bodies
  records = tab-length (count_of_bodies bodies) (record_at bodies)

  last-size : length r.last ≡ count_of_bodies bodies
  last-size = r.locals.size ∙ records

  abbrev old : ℕ → BodyState
  old k =
      let b = record_in (records_of bodies) k in
      state_with b.origin b.rotation b.linear_velocity b.angular_velocity

  module _ (k : ℕ) (there : k < count_of_bodies bodies) where
    in-last : k < length r.last
    in-last = subst (λ (n : ℕ). k < n) (sym last-size) there

    in-candidate : k < length r.candidate
    in-candidate = subst (λ (n : ℕ). k < n) r.stay.size in-last

    local : T (within_of (body_in r.last k).center_of_mass (ratio 64 1))
    local =
        let e : record_in (records_of bodies) k ≡ record_at bodies k = tab-at (count_of_bodies bodies) (record_at bodies) no_record k there in
        let at-k = r.locals.same k (subst (λ (n : ℕ). k < n) (sym records) there) in
        let c : (record_at bodies k).center_of_mass ≡ (body_in r.last k).center_of_mass = sym (ap (λ (b : RigidBody). b.center_of_mass) e) ∙ at-k in
        subst (λ (v : Vec3). T (within_of v (ratio 64 1))) c (local-in (record_at bodies k) (ready.in-range k there))

    state : state_of (body_in r.last k) (old k) ≡ go (state_in states k)
    unfolding states_of
    state = (each_at (length r.last) _ states r.states-are).at no_state k in-last

    in-states : k < length states
    unfolding states_of
    in-states = subst (λ (n : ℕ). k < n) (sym (each_at (length r.last) _ states r.states-are).size) in-last

    ground : T (within_of (state_in states k).origin (ratio 8192 1))
    unfolding grounded
    ground = yes-T (every-at (λ (i : ℕ). within_of (state_in states i).origin (ratio 8192 1)) (length states) (sym on-ground) in-states)

    back : state_in states k ≡ state_at (hand_back bodies states) (RECORD * k)
    back = sym (back-state bodies states k there)

    stood : Stands (record_at (hand_back bodies states) k).origin (record_at (hand_back bodies states) k).rotation
    stood = subst (λ (s : BodyState). Stands s.origin s.rotation) back (stands (body_in r.last k) (old k) (state_in states k) state)

  module _ (k : ℕ) (l : k < count) where
    abbrev joint : Joint
    joint = joint_in joints k

    abbrev a : ℕ
    a = joint.body_a

    abbrev b : ℕ
    b = joint.body_b

    -- its numbers passed refusal 9
    numbers : T (frame_ok joint.frame_a) × T (frame_ok joint.frame_b) × T (motions_ok (motions_of joint.kind))
    numbers =
        let n = both (frame_ok joint.frame_a && frame_ok joint.frame_b) (motions_ok (motions_of joint.kind)) (yes-T (ready.numbers k l)) in
        let f = both (frame_ok joint.frame_a) (frame_ok joint.frame_b) n.0 in
        (f.0, f.1, n.1)

    -- its rows are within their tolerances
    rows_of : Each (joint_rows joints r.candidate k)
    unfolding write_rows rows_met
    rows_of = rows-each (joint_rows joints r.candidate) count r.rows r.rows_are (rows-met no_row r.rows (sym r.rows-met)) k l

    met-states : Met joint (state_place (state_in states a)) (state_place (state_in states b))
    met-states =
        let at_a = ready.a-there k l in
        let at_b = ready.b_there k l in
        met joint (body_in r.candidate a) (body_in r.candidate b) rows_of.rows rows_of.is rows_of.within
        numbers.0 numbers.1 (motions-in (motions_of joint.kind) numbers.2)
        (body_in r.last a) (body_in r.last b) (r.stay.same a (in-candidate a at_a)) (r.stay.same b (in-candidate b at_b)) (local a at_a) (local b at_b)
        (old a) (old b) (state_in states a) (state_in states b) (state a at_a) (state b at_b) (ground a at_a) (ground b at_b)

    met-records : AtEnds Met (hand_back bodies states) joint
    met-records = subst₂ (Met joint) (ap state_place (back a (ready.a-there k l))) (ap state_place (back b (ready.b_there k l))) met-states

    proper-records : AtEnds Proper (hand_back bodies states) joint
    proper-records =
        let at_a = stood a (ready.a-there k l) in
        let at_b = stood b (ready.b_there k l) in
        proper joint _ _ numbers.0 numbers.1 (motions-finite (motions_of joint.kind) numbers.2) at_a.N-above at_b.N-above

-- ---- the ways of a step
no-refusal : {o : Turn (Unit {0}) Refusal} → 1 ≤ number_of o → o ≡ go tt → ⊥
no-refusal l e = omega (arith, ap number_of e)

pub fault-number : (fault : CollisionError) → number_of (fault_outcome fault) ≡ number fault
fault-number NonConvergent = refl
fault-number ArithmeticOverflow = refl

fault-late : (fault : CollisionError) → 10 ≤ number fault
fault-late NonConvergent = omega arith
fault-late ArithmeticOverflow = omega arith

module _ (bodies : List Float) (joints : List Joint) (count : ℕ) (dt : Float) (scratch : List Float) where
  abbrev Solved : Stepped → Type 0
  Solved s = s ≡ solve_of bodies joints count dt scratch

  abbrev Says : Stepped → Type 0
  Says s = Answered bodies s.bodies joints count dt scratch s.scratch (record { outcome = s.outcome; nonlinear = s.nonlinear; linear = s.linear })

  -- 1 to 9
  abbrev checked : Refusal → Stepped
  checked refusal = record { outcome = stop refusal; nonlinear = 0; linear = 0; bodies = bodies; scratch = scratch }

  -- the step's answer, by what the refusals answered
  abbrev answer : Turn (Unit {0}) Refusal → Stepped
  answer tested = elim tested [ stop refusal ↦ checked refusal | go _ ↦ concluded bodies (cleared scratch) (run_for bodies joints count dt) ]

  -- the field `faulted` of a step's answer
  abbrev Faulted : Stepped → Type 0
  Faulted t = refusal_of bodies joints count dt (length scratch) ≡ go tt → (fault : CollisionError)
      → (run_for bodies joints count dt).ends ≡ stop fault → number_of t.outcome ≡ number fault

  fault-answered : Faulted (solve_of bodies joints count dt scratch)
  unfolding solve_of
  fault-answered p fault q =
      let left = cleared scratch in
      let run = run_for bodies joints count dt in
      let ended : Result (List BodyState) → Stepped = λ t. concluded bodies left (record { ends = t; nonlinear = run.nonlinear; linear = run.linear }) in
      ap (λ (o : Turn (Unit {0}) Refusal). number_of (answer o).outcome) p
      ∙ ap (λ (t : Result (List BodyState)). number_of (ended t).outcome) q
      ∙ fault-number fault

  as-faulted : {t : Stepped} → Solved t → Faulted t
  as-faulted is = subst Faulted (sym is) fault-answered

  says-checked : (refusal : Refusal) → 1 ≤ number_of (stop refusal) → number_of (stop refusal) ≤ 9 → Solved (checked refusal) → Says (checked refusal)
  says-checked refusal low high is = record {
    is = is;
    few = λ h. absurd (no-refusal (omega arith) h);
    stands = λ h. absurd (no-refusal (omega arith) h);
    joins = λ h. absurd (no-refusal (omega arith) h);
    proper = λ h. absurd (no-refusal (omega arith) h);
    meets = λ h. absurd (no-refusal (omega arith) h);
    faulted = as-faulted is;
    refused = λ h. refl;
    early = λ h g. (refl, refl, refl);
    accepted = λ h. absurd (no-refusal (omega arith) h);
    late = λ h. absurd (omega arith);
  }

  module _ (ready : Unrefused bodies joints count dt (length scratch)) where
    -- 10 to 12
    abbrev failed : Turn (Unit {0}) Refusal → ℕ → ℕ → Stepped
    failed o n l = record { outcome = o; nonlinear = n; linear = l; bodies = bodies; scratch = cleared scratch }

    says-failed : (o : Turn (Unit {0}) Refusal) (n l : ℕ) → 10 ≤ number_of o → Solved (failed o n l) → Says (failed o n l)
    says-failed o n l low is = record {
      is = is;
      few = λ h. absurd (no-refusal (omega arith) h);
      stands = λ h. absurd (no-refusal (omega arith) h);
      joins = λ h. absurd (no-refusal (omega arith) h);
      proper = λ h. absurd (no-refusal (omega arith) h);
      meets = λ h. absurd (no-refusal (omega arith) h);
      faulted = as-faulted is;
      refused = λ h. refl;
      early = λ h g. absurd (omega arith);
      accepted = λ h. (ready.room, refl);
      late = λ h. (ready.room, refl);
    }

    -- accepted
    abbrev moved : ℕ → ℕ → List BodyState → Stepped
    moved n l states = stepped (go tt) n l (hand_back bodies states) (cleared scratch)

    says-moved : (n l : ℕ) (states : List BodyState) → (run_for bodies joints count dt).ends ≡ go states → grounded states ≡ true
        → Solved (moved n l states) → Says (moved n l states)
    says-moved n l states e g is = record {
      is = is;
      few = λ h. (ready.few, within-table joints count ready.numbers);
      joins = λ h k l. (same (ready.a-there k l), same (ready.b_there k l));
      proper = λ h k l. proper-records bodies joints count dt (length scratch) ready states end g k l;
      meets = λ h k l. met-records bodies joints count dt (length scratch) ready states end g k l;
      stands = λ h k l. stood bodies joints count dt (length scratch) ready states end g k (as_many l);
      faulted = as-faulted is;
      refused = λ h. absurd (omega arith);
      early = λ h. absurd (omega arith);
      accepted = λ h. (ready.room, refl);
      late = λ h. absurd (omega arith);
    }
      where
        end : Traced (records_of bodies) joints count states
        end = ran (job_of bodies joints count dt) (records_of bodies) states e

        as_many : {k : ℕ} → k < count_of_bodies (hand_back bodies states) → k < count_of_bodies bodies
        as_many {k} h = subst (λ (n : ℕ). k < n / RECORD) (back-length bodies states) h

        same : {k : ℕ} → k < count_of_bodies bodies → k < count_of_bodies (hand_back bodies states)
        same {k} h = subst (λ (n : ℕ). k < n / RECORD) (sym (back-length bodies states)) h

    -- however the run ends
    says-run : (n l : ℕ) (t : Result (List BodyState)) → (run_for bodies joints count dt).ends ≡ t
        → Solved (concluded bodies (cleared scratch) (record { ends = t; nonlinear = n; linear = l }))
        → Says (concluded bodies (cleared scratch) (record { ends = t; nonlinear = n; linear = l }))
    says-run n l (stop fault) e is = says-failed (fault_outcome fault) n l (subst (λ (m : ℕ). 10 ≤ m) (sym (fault-number fault)) (fault-late fault)) is
    says-run n l (go states) e is = by-ground (grounded states) refl is
      where
        ended : Bool → Stepped
        ended g = cond g (moved n l states) (failed (stop Ground) n l)

        by-ground : (g : Bool) → grounded states ≡ g → Solved (ended g) → Says (ended g)
        by-ground true g is = says-moved n l states e g is
        by-ground false g is = says-failed (stop Ground) n l (omega arith) is

  says : (t : Turn (Unit {0}) Refusal) → refusal_of bodies joints count dt (length scratch) ≡ t → Solved (answer t) → Says (answer t)
  says (go u) e is =
      let run = run_for bodies joints count dt in
      says-run (accepted bodies joints count dt (length scratch) e) run.nonlinear run.linear run.ends refl is
  says (stop refusal) e is =
      let n = refused-number bodies joints count dt (length scratch) (λ q. not-both (sym e ∙ q)) in
      says-checked refusal (omega (arith, ap number_of e, n.0)) (omega (arith, ap number_of e, n.1)) is
    where
      not-both : {refusal : Refusal} → ◌≡◌ {A = Turn (Unit {0}) Refusal} (stop refusal) (go tt) → ⊥
      not-both q = let z : ◌≡◌ {A = ℕ} 0 1 = cc in omega arith

  solve-says : Says (solve_of bodies joints count dt scratch)
  unfolding solve_of
  solve-says = says (refusal_of bodies joints count dt (length scratch)) refl refl

-- the step's contract, from its first line
pub answered : (bodies after : List Float) (joints : List Joint) (count : ℕ) (dt : Float) (scratch left : List Float) (r : Report)
    → stepped r.outcome r.nonlinear r.linear after left ≡ solve_of bodies joints count dt scratch
    → Answered bodies after joints count dt scratch left r
answered bodies after joints count dt scratch left r is = subst (Says bodies joints count dt scratch) (sym is) (solve-says bodies joints count dt scratch)
