-- The functions of integrator.rt that fill one table of the scratch each: bodies, masses, rows, impulses, states.
use Prim.Native.Nat.{ℕ, ◌+◌, ◌*◌, ◌≤◌, ◌<◌}
use mathlib.Core.Path.{◌≡◌, refl, sym, ◌∙◌, ap, subst}
use mathlib.Core.Bool.{Bool, true, false, cond}
use mathlib.Core.List.{List}
use native.Mathlib.Omega.{arith}
use lib.ListN.{length, set}
use lib.Ieee as Ieee
use lib.Ieee.{Float}
use Rattle.arith.specs.Real.{◌⊕◌, ◌⊘◌, abs_of}
use Rattle.arith.specs.Flow.{go, stop, tab, each, every}
use Rattle.arith.specs.FlowLaws.{each_more}
use Rattle.vectors.specs.declared.vector.Vec3.{Vec3}
use Rattle.vectors.specs.declared.matrix.Mat3.{Mat3}
use Rattle.std.specs.Result.{result_unwrap_or}
use Rattle.vectors.specs.Matrix.{column_of, mat_product_of, inverse_spd_of, zero_mat}
use Rattle.rows.specs.declared.body.RigidBody.{RigidBody}
use Rattle.rows.specs.declared.body.BodyState.{BodyState}
use Rattle.rows.specs.declared.body.MomentumBody.{MomentumBody}
use Rattle.rows.specs.declared.geometry.EqualityRow.{EqualityRow}
use Rattle.rows.specs.Fault.{CollisionError, Result}
use Rattle.rows.specs.Body.{new_of, state_with, state_of}
use Rattle.rows.specs.View.{at, Out, Kept}
use Rattle.rows.specs.Region.{tab-length, tab-ext, tab-at, kept_refl, kept_then, kept_more}
use Rattle.rows.specs.Laws.Results.{go_same, step}
use Rattle.solves.specs.declared.places.Generalized.{Generalized}
use Rattle.solves.specs.declared.places.MassResponse.{MassResponse}
use Rattle.solves.specs.Region.{vec_at, Filled, Does}
use Rattle.solves.specs.RegionLaws.{vec-at, filled-vec, filled_more}
use Rattle.solves.specs.Solver.{row_in, generalized_in, try_number}
use Rattle.solves.specs.Layout.{MASS_TABLE}
use Rattle.solves.specs.View.{ROWS, MASSES, RHS, SOLUTION, GENERALIZED, row_on, rows_on, generalized_at, generalizeds_at, mass_of, mass_at, masses_at, Beside}
use Rattle.solves.specs.View.{no_row}
use Rattle.arith.specs.ChainLaws.{every-ext}
use Rattle.step.specs.Layout.{IMPULSES, START, CANDIDATE, BODIES, STATES}
use Rattle.solves.specs.ViewLaws.{share_in, masses-more}
use Rattle.step.specs.Records.{record_at, records_of, count_of_bodies}
use Rattle.step.specs.View.{cols_of, start_body_at, candidate_at, start_bodies_at, candidates_at, states_at, held_of, moved_to, state_at, no_record}
use Rattle.step.specs.ViewLaws.{kept-start, kept-candidate, kept-state}
use Rattle.step.specs.Bodies.{body_in, record_in, start_bodies, mass_response, prepare_masses, kick_and_drift, move_bodies, rows_met, rhs_of, add_impulses}
use Rattle.step.specs.Bodies.{states_of}
use Rattle.step.specs.RunView.{bodies_at}
use Rattle.step.proofs.FrameLaws.{candidate-in, start-in, body-in}
use Rattle.step.proofs.EachLaws.{so-none, so-more, so-put, so-stop, so-end}
use Rattle.step.proofs.MotionLaws.{drift-moved, new-held}

-- ---- start_bodies
-- a record's inverse inertia, and zeros where there is none
abbrev inverse_of : RigidBody → Mat3
inverse_of b = result_unwrap_or (inverse_spd_of b.inertia) zero_mat

module _ (bodies : List Float) (body-count : ℕ) (s₀ : List Float) where
  abbrev begin : ℕ → Result MomentumBody
  begin k = new_of (record_in (tab body-count (record_at bodies)) k) (inverse_of (record_in (tab body-count (record_at bodies)) k))

  abbrev pub Begun : ℕ → List Float → Type 0
  Begun k s = Does (λ i. Out START (26 * k) i) s₀ s (go (start_bodies_at s k)) (each k begin)

  pub begin-none : Begun 0 s₀
  begin-none = so-none start_body_at begin s₀

  module _ {k : ℕ} {s : List Float} (so : Begun k s) (h : k < body-count) (l : body-count ≤ 16) {body : RigidBody} {inverse : Mat3}
      {d : Result MomentumBody} (eb : body ≡ record_at bodies k) (ei : inverse ≡ inverse_of body) (e : d ≡ new_of body inverse) where
    begin-turn : d ≡ begin k
    begin-turn =
        let r : body ≡ record_in (tab body-count (record_at bodies)) k = eb ∙ sym (tab-at body-count (record_at bodies) no_record k h) in
        e ∙ ap (new_of body) ei ∙ ap (λ (b : RigidBody). new_of b (inverse_of b)) r

    pub begin-again : {t : List Float} {b : MomentumBody} → go b ≡ d → (Kept (λ j. Out (START + 26 * k) 26 j) s t) × (start_body_at t k ≡ held_of b)
        → Begun (k + 1) t
    begin-again {t} {b} q st =
        so-more start_body_at begin s₀ k s so (λ i. Out START (26 * (k + 1)) i) (λ i x. omega arith) st.0 (λ i x. omega arith)
        (λ i g. kept-start st.0 i (λ j a c. omega arith)) (st.1 ∙ new-held _ _ (q ∙ begin-turn)) (q ∙ begin-turn)

    pub begin-stops : {f : CollisionError} → stop f ≡ d → Does (Out START BODIES) s₀ s (stop f) (start_bodies (tab body-count (record_at bodies)))
    unfolding start_bodies
    begin-stops q =
        so-stop start_body_at begin s₀ k s so (Out START BODIES) (λ i x. omega arith) (sym (tab-length body-count (record_at bodies))) h
        (kept_refl (Out START BODIES) s) (λ i x. x) (q ∙ begin-turn)

  pub begin-ends : (k : ℕ) (s : List Float) → Begun k s → k ≤ body-count → body-count ≤ k → body-count ≤ 16
      → Does (Out START BODIES) s₀ s (go (start_bodies_at s body-count)) (start_bodies (tab body-count (record_at bodies)))
  unfolding start_bodies
  begin-ends k s so a b l =
      so-end start_body_at begin s₀ k s so (Out START BODIES) (λ i x. omega arith) body-count (sym (tab-length body-count (record_at bodies))) a b

bodies-length : (moved : Bool) (s : List Float) (body-count : ℕ) → body-count ≡ length (bodies_at moved s body-count)
bodies-length true s body-count = sym (tab-length body-count (candidate_at s))
bodies-length false s body-count = sym (tab-length body-count (start_body_at s))

-- ---- prepare_mass
mass-cols : (body : MomentumBody) (m : MassResponse) → go m ≡ mass_response body → cols_of m.angular ≡ m.angular
unfolding mass_response mat_product_of
mass-cols body m h =
    let rotation = step _ _ m (sym h) in
    let finite = step _ _ m rotation.2 in
    subst (λ (x : MassResponse). cols_of x.angular ≡ x.angular) (go_same _ _ finite.2) refl

module _ (body : MomentumBody) (k : ℕ) {s : List Float} where
  pub weigh-over : {f : CollisionError} → stop f ≡ mass_response body → (P : ℕ → Type 0) → Does P s s (stop f) (mass_response body)
  weigh-over h P = record { kept = kept_refl P s; is = h }

  pub weigh-there : {m : MassResponse} → go m ≡ mass_response body → {t : List Float} {x y z : Vec3} → x ≡ column_of m.angular 0
      → y ≡ column_of m.angular 1 → z ≡ column_of m.angular 2
      → (Kept (λ j. Out (MASSES + 10 * k) 10 j) s t) × (mass_at t MASSES k ≡ mass_of m.linear x y z)
      → Does (λ j. Out (MASSES + 10 * k) 10 j) s t (go (mass_at t MASSES k)) (mass_response body)
  weigh-there {m} there {t} {x} {y} {z} ex ey ez st = record { kept = st.0; is = ap go (st.1 ∙ whole) ∙ there }
    where
      whole : mass_of m.linear x y z ≡ m
      whole =
          let held : MassResponse = record { linear = m.linear; angular = cols_of m.angular } in
          let a : mass_of m.linear x y z ≡ held = λ j. mass_of m.linear (ex j) (ey j) (ez j) in
          let b : held ≡ m = λ j. record { linear = m.linear; angular = mass-cols body m there j } in
          a ∙ b

-- ---- prepare_masses
module _ (moved : Bool) (body-count : ℕ) (s₀ : List Float) where
  abbrev weigh : ℕ → Result MassResponse
  weigh k = mass_response (body_in (bodies_at moved s₀ body-count) k)

  abbrev pub Weighed : ℕ → List Float → Type 0
  Weighed k s = Does (λ i. Out MASSES (10 * k) i) s₀ s (go (masses_at s MASSES k)) (each k weigh)

  pub weigh-none : Weighed 0 s₀
  weigh-none = so-none (λ s k. mass_at s MASSES k) weigh s₀

  module _ (k : ℕ) (s : List Float) (so : Weighed k s) (h : k < body-count) (l : body-count ≤ 16) {body : MomentumBody}
      (eb : body ≡ cond moved (candidate_at s k) (start_body_at s k)) where
    weigh-turn : mass_response body ≡ weigh k
    weigh-turn = ap mass_response (body-in so.kept (λ i a b. omega arith) (λ i a b. omega arith) moved body-count k h l eb)

    pub weigh-again : {t : List Float} → Does (λ j. Out (MASSES + 10 * k) 10 j) s t (go (mass_at t MASSES k)) (mass_response body) → Weighed (k + 1) t
    weigh-again {t} d = record {
      kept = kept_then (kept_more so.kept (λ i x. omega arith)) d.kept (λ i x. omega arith);
      is = ap go (masses-more MASSES k (d.kept, refl)) ∙ each_more weigh so.is (d.is ∙ weigh-turn);
    }

    pub weigh-stops : {t : List Float} {f : CollisionError} → Does (λ j. Out (MASSES + 10 * k) 10 j) s t (stop f) (mass_response body)
        → Does (Out MASSES MASS_TABLE) s₀ t (stop f) (prepare_masses (bodies_at moved s₀ body-count))
    unfolding prepare_masses
    weigh-stops {t} d =
        so-stop (λ s k. mass_at s MASSES k) weigh s₀ k s so (Out MASSES MASS_TABLE) (λ i x. omega arith) (bodies-length moved s₀ body-count) h d.kept
        (λ i x. omega arith) (d.is ∙ weigh-turn)

  pub weigh-ends : (k : ℕ) (s : List Float) → Weighed k s → k ≤ body-count → body-count ≤ k → body-count ≤ 16
      → Does (Out MASSES MASS_TABLE) s₀ s (go (masses_at s MASSES body-count)) (prepare_masses (bodies_at moved s₀ body-count))
  unfolding prepare_masses
  weigh-ends k s so a b l =
      so-end (λ s k. mass_at s MASSES k) weigh s₀ k s so (Out MASSES MASS_TABLE) (λ i x. omega arith) body-count (bodies-length moved s₀ body-count) a b

-- ---- move_bodies
module _ (dt : Float) (body-count : ℕ) (s₀ : List Float) where
  abbrev move : ℕ → Result MomentumBody
  move k = kick_and_drift dt (body_in (start_bodies_at s₀ body-count) k) (generalized_in (generalizeds_at s₀ GENERALIZED body-count) k)

  abbrev pub Moved : ℕ → List Float → Type 0
  Moved k s = Does (λ i. Out CANDIDATE (13 * k) i) s₀ s (go (candidates_at s k)) (each k move)

  pub move-none : Moved 0 s₀
  move-none = so-none candidate_at move s₀

  module _ {k : ℕ} {s : List Float} (so : Moved k s) (h : k < body-count) (l : body-count ≤ 16) {share : Generalized} {start : MomentumBody}
      {d : Result MomentumBody} (eg : share ≡ generalized_at s GENERALIZED k) (eb : start ≡ start_body_at s k) (e : d ≡ kick_and_drift dt start share) where
    move-turn : d ≡ move k
    move-turn =
        let g : share ≡ generalized_in (generalizeds_at s₀ GENERALIZED body-count) k = share_in so.kept GENERALIZED body-count k (λ i a b. omega arith) h eg in
        let b : start ≡ body_in (start_bodies_at s₀ body-count) k = start-in so.kept body-count k (λ i a b. omega arith) h eb in
        e ∙ ap (λ (x : MomentumBody). kick_and_drift dt x share) b ∙ ap (kick_and_drift dt (body_in (start_bodies_at s₀ body-count) k)) g

    pub move-again : {t : List Float} {b : MomentumBody} → go b ≡ d
        → (Kept (λ j. Out (CANDIDATE + 13 * k) 13 j) s t) × (candidate_at t k ≡ moved_to b (start_body_at s k)) → Moved (k + 1) t
    move-again {t} {b} q st =
        so-more candidate_at move s₀ k s so (λ i. Out CANDIDATE (13 * (k + 1)) i) (λ i x. omega arith) st.0 (λ i x. omega arith)
        (λ i g. kept-candidate st.0 i (λ j a c. omega arith) (λ j a c. omega arith))
        (st.1 ∙ drift-moved (start_body_at s k) share dt (q ∙ e ∙ ap (λ (x : MomentumBody). kick_and_drift dt x share) eb)) (q ∙ move-turn)

    pub move-stops : {f : CollisionError} → stop f ≡ d
        → Does (Out CANDIDATE STATES) s₀ s (stop f) (move_bodies dt (start_bodies_at s₀ body-count) (generalizeds_at s₀ GENERALIZED body-count))
    unfolding move_bodies
    move-stops q =
        so-stop candidate_at move s₀ k s so (Out CANDIDATE STATES) (λ i x. omega arith) (sym (tab-length body-count (start_body_at s₀))) h
        (kept_refl (Out CANDIDATE STATES) s) (λ i x. x) (q ∙ move-turn)

  pub move-ends : {k : ℕ} {s : List Float} → Moved k s → k ≤ body-count → body-count ≤ k → body-count ≤ 16
      → Does (Out CANDIDATE STATES) s₀ s (go (candidates_at s body-count))
      (move_bodies dt (start_bodies_at s₀ body-count) (generalizeds_at s₀ GENERALIZED body-count))
  unfolding move_bodies
  move-ends {k} {s} so a b l =
      so-end candidate_at move s₀ k s so (Out CANDIDATE STATES) (λ i x. omega arith) body-count (sym (tab-length body-count (start_body_at s₀))) a b

-- ---- rows_met and fill_rhs
-- one more
pub rhs-more : (dt : Float) {s : List Float} {k : ℕ} {t : List Float} → Filled RHS k (λ j. Ieee.neg (at s (ROWS + 14 * j + 12)) ⊘ dt) s t → k < 96
    → RHS + k < length t
    → Filled RHS (k + 1) (λ j. Ieee.neg (at s (ROWS + 14 * j + 12)) ⊘ dt) s (set t (RHS + k) (Ieee.neg (at t (ROWS + 14 * k + 12)) ⊘ dt))
rhs-more dt {s} {k} {t} f l h = filled_more f h (ap (λ (x : Float). Ieee.neg x ⊘ dt) (f.kept.same (ROWS + 14 * k + 12) (omega arith)))

module _ (s : List Float) (n : ℕ) (ia ib : List ℕ) where
  row_is : (k : ℕ) → k < n → row_in (rows_on ia ib s ROWS n) k ≡ row_on ia ib s ROWS k
  row_is k h = tab-at n (row_on ia ib s ROWS) no_row k h

  abbrev row_test : ℕ → Bool
  row_test k = Ieee.le (abs_of (row_in (rows_on ia ib s ROWS n) k).value) (row_in (rows_on ia ib s ROWS n) k).tolerance

  -- the same, of the numbers where they stand
  abbrev pub met_at : ℕ → Bool
  met_at k = Ieee.le (abs_of (at s (ROWS + 14 * k + 12))) (at s (ROWS + 14 * k + 13))

  pub met-is : every n met_at ≡ rows_met (rows_on ia ib s ROWS n)
  unfolding rows_met
  met-is =
      every-ext met_at row_test n (λ k h. ap (λ (r : EqualityRow). Ieee.le (abs_of r.value) r.tolerance) (sym (row_is k h)))
      ∙ ap (λ (m : ℕ). every m row_test) (sym (tab-length n (row_on ia ib s ROWS)))

  pub rhs-is : (dt : Float) {t : List Float} → Filled RHS n (λ k. Ieee.neg (at s (ROWS + 14 * k + 12)) ⊘ dt) s t → n ≤ 96
      → Does (Beside RHS) s t (vec_at t RHS n) (rhs_of dt (rows_on ia ib s ROWS n))
  unfolding rhs_of
  rhs-is dt {t} f l = record {
    kept = kept_more f.kept (λ i x. omega arith);
    is = filled-vec f ∙ tab-ext n (λ k h. sym (ap (λ (r : EqualityRow). Ieee.neg r.value ⊘ dt) (row_is k h)))
        ∙ ap (λ (m : ℕ). tab m (λ k. Ieee.neg (row_in (rows_on ia ib s ROWS n) k).value ⊘ dt)) (sym (tab-length n (row_on ia ib s ROWS)));
  }

-- ---- add_impulses
module _ (n : ℕ) (s₀ : List Float) where
  abbrev sum : ℕ → Result Float
  sum k = try_number (at (vec_at s₀ IMPULSES n) k ⊕ at (vec_at s₀ SOLUTION n) k)

  abbrev pub Summed : ℕ → List Float → Type 0
  Summed k s = Does (λ i. Out IMPULSES k i) s₀ s (go (vec_at s IMPULSES k)) (each k sum)

  pub sum-none : Summed 0 s₀
  sum-none = so-none (λ s k. at s (IMPULSES + k)) sum s₀

  module _ (k : ℕ) (s : List Float) (so : Summed k s) (h : k < n) (l : n ≤ 96) where
    sum_is : at s (IMPULSES + k) ⊕ at s (SOLUTION + k) ≡ at (vec_at s₀ IMPULSES n) k ⊕ at (vec_at s₀ SOLUTION n) k
    sum_is =
        let x : at s (IMPULSES + k) ≡ at (vec_at s₀ IMPULSES n) k = so.kept.same (IMPULSES + k) (omega arith) ∙ vec-at s₀ IMPULSES n k h in
        let y : at s (SOLUTION + k) ≡ at (vec_at s₀ SOLUTION n) k = so.kept.same (SOLUTION + k) (omega arith) ∙ vec-at s₀ SOLUTION n k h in
        cc

    sum-turn : try_number (at s (IMPULSES + k) ⊕ at s (SOLUTION + k)) ≡ sum k
    sum-turn = ap (λ (v : Float). try_number v) sum_is

    pub sum-again : {v : Float} → IMPULSES + k < length s → go v ≡ try_number (at s (IMPULSES + k) ⊕ at s (SOLUTION + k))
        → Summed (k + 1) (set s (IMPULSES + k) v)
    sum-again {v} g e = so-put IMPULSES sum s₀ k s so (λ i. Out IMPULSES (k + 1) i) (λ i x. omega arith) v (λ i x. omega arith) g (e ∙ sum-turn)

    pub sum-stops : {f : CollisionError} → stop f ≡ try_number (at s (IMPULSES + k) ⊕ at s (SOLUTION + k))
        → Does (Beside IMPULSES) s₀ s (stop f) (add_impulses (vec_at s₀ IMPULSES n) (vec_at s₀ SOLUTION n))
    unfolding add_impulses
    sum-stops e =
        so-stop (λ s k. at s (IMPULSES + k)) sum s₀ k s so (Beside IMPULSES) (λ i x. omega arith)
        (sym (tab-length n (λ j. at s₀ (IMPULSES + j)))) h
        (kept_refl (Beside IMPULSES) s) (λ i x. x) (e ∙ sum-turn)

  pub sum-ends : {k : ℕ} {s : List Float} → Summed k s → k ≤ n → n ≤ k → n ≤ 96
      → Does (Beside IMPULSES) s₀ s (go (vec_at s IMPULSES n)) (add_impulses (vec_at s₀ IMPULSES n) (vec_at s₀ SOLUTION n))
  unfolding add_impulses
  sum-ends {k} {s} so a b l =
      so-end (λ s k. at s (IMPULSES + k)) sum s₀ k s so (Beside IMPULSES) (λ i x. omega arith) n
      (sym (tab-length n (λ j. at s₀ (IMPULSES + j)))) a b

-- ---- make_states
module _ (bodies : List Float) (body-count : ℕ) (s₀ : List Float) where
  abbrev old : ℕ → RigidBody → BodyState
  old k b = state_with b.origin b.rotation b.linear_velocity b.angular_velocity

  abbrev stating : ℕ → Result BodyState
  stating k = state_of (body_in (candidates_at s₀ body-count) k) (old k (record_in (records_of bodies) k))

  abbrev pub Stated : ℕ → List Float → Type 0
  Stated k s = Does (λ i. Out CANDIDATE (13 * k) i) s₀ s (go (states_at s k)) (each k stating)

  pub state-none : Stated 0 s₀
  state-none = so-none (λ s k. state_at s (CANDIDATE + 13 * k)) stating s₀

  module _ {k : ℕ} {s : List Float} (so : Stated k s) (h : k < body-count) (l : body-count ≤ 16) (g : body-count ≤ count_of_bodies bodies)
      {body : MomentumBody} {d : Result BodyState} (eb : body ≡ candidate_at s k) (e : d ≡ state_of body (state_at bodies (26 * k))) where
    state-turn : d ≡ stating k
    state-turn =
        let b : body ≡ body_in (candidates_at s₀ body-count) k = candidate-in so.kept body-count k (λ i x y. omega arith) (λ i x y. omega arith) h eb in
        e ∙ ap (λ (x : MomentumBody). state_of x (state_at bodies (26 * k))) b ∙ ap
        (λ (x : RigidBody). state_of (body_in (candidates_at s₀ body-count) k) (old k x))
        (sym (tab-at (count_of_bodies bodies) (record_at bodies) no_record k (omega arith)))

    pub state-again : {t : List Float} {state : BodyState} → go state ≡ d
        → (Kept (λ j. Out (CANDIDATE + 13 * k) 13 j) s t) × (state_at t (CANDIDATE + 13 * k) ≡ state) → Stated (k + 1) t
    state-again {t} {state} q st =
        so-more (λ s k. state_at s (CANDIDATE + 13 * k)) stating s₀ k s so (λ i. Out CANDIDATE (13 * (k + 1)) i) (λ i x. omega arith) st.0
        (λ i x. omega arith)
        (λ i g. kept-state st.0 (CANDIDATE + 13 * i) (λ j a c. omega arith)) st.1 (q ∙ state-turn)

    pub state-stops : {f : CollisionError} → stop f ≡ d
        → Does (Out CANDIDATE STATES) s₀ s (stop f) (states_of (records_of bodies) (candidates_at s₀ body-count))
    unfolding states_of
    state-stops q =
        so-stop (λ s k. state_at s (CANDIDATE + 13 * k)) stating s₀ k s so (Out CANDIDATE STATES) (λ i x. omega arith)
        (sym (tab-length body-count (candidate_at s₀))) h (kept_refl (Out CANDIDATE STATES) s) (λ i x. x) (q ∙ state-turn)

  pub state-ends : (k : ℕ) (s : List Float) → Stated k s → k ≤ body-count → body-count ≤ k → body-count ≤ 16
      → Does (Out CANDIDATE STATES) s₀ s (go (states_at s body-count)) (states_of (records_of bodies) (candidates_at s₀ body-count))
  unfolding states_of
  state-ends k s so a b l =
      so-end (λ s k. state_at s (CANDIDATE + 13 * k)) stating s₀ k s so (Out CANDIDATE STATES) (λ i x. omega arith) body-count
      (sym (tab-length body-count (candidate_at s₀))) a b
