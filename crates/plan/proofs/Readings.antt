-- The reader, way by way, as the code takes them: what it notes, and the tables that are written from the notes.
use Prim.Native.Nat.{ℕ, zero, suc, ◌+◌, ◌-◌, ◌*◌, ◌^◌, ◌≤◌, ◌<◌}
use mathlib.Core.Path.{◌≡◌, refl, sym, ◌∙◌, ap, subst}
use mathlib.Core.List.{List}
use native.Mathlib.Omega.{arith}
use Rattle.std.proofs.Common.{below_more}
use Rattle.std.proofs.lemmas.List.{take_rest}
use lib.ListN.{length, get_or, set, take, drop, length-take, length-drop, length-set, length-replicate}
use lib.Seq.{paste, drop-drop, get_or-set_same, get_or-set_other, get_or-take}
use lib.Ieee.{Float}
use Rattle.std.specs.Prelude.{Option, None, Some, is_some, Result, Ok, Err, ok_or}
use Rattle.std.specs.Result.{result_ok}
use Rattle.arith.specs.Flow.{turns}
use Rattle.arith.specs.FlowLaws.{turns_more}
use Rattle.rows.specs.declared.geometry.Joint.{Joint}
use Rattle.plan.specs.declared.reader.Tables.{Tables}
use Rattle.plan.specs.declared.reader.ReadError.{ReadError}
use Rattle.plan.specs.declared.reader.ReadError.TheVariants.{NoTimeStep}
use Rattle.plan.specs.declared.reader.Record.{Record}
use Rattle.plan.specs.declared.reader.Record.TheVariants as found
use Rattle.plan.specs.declared.reader.Places.{Places}
use Rattle.plan.specs.declared.reader.Notes.{Notes}
use Rattle.plan.specs.File as File
use Rattle.plan.specs.File.{Head, refused, ended_of, double, body_of, joint_of, JointThere, TIME_STEP, BODY, NUMBERS, head_of}
use Rattle.plan.specs.File.{next_of, read_on, read_of, empty_of}
use Rattle.plan.specs.FileLaws.{room-time-step, room-body, room-joint, length-joint}
use Rattle.plan.specs.Noting.{no_places, with_place, with_time_step, with_body, with_joint}
use Rattle.plan.specs.Noting.{body_turn, bodies_from, joint_turn, joints_from, filled_of, reading_of}
use Rattle.plan.specs.Noting.{BodyAt, JointAt, There, ThereIf, Reaches, Reads, Noted}

-- ---- the part after k bytes, as the borrow checker has it
abbrev pub rest : ℕ → List ℕ → List ℕ
rest k s = take (length s - k) (drop k s)

pub rest-is : (k : ℕ) (s : List ℕ) → rest k s ≡ drop k s
rest-is k s = take_rest s k

rest-length : (k : ℕ) (s : List ℕ) → length (rest k s) ≡ length s - k
rest-length k s = ap length (rest-is k s) ∙ length-drop k s

-- it is shorter, and ends where the file does
pub rest-asked : {k : ℕ} (s : List ℕ) (t : ℕ) {left : ℕ} {u v : Notes} → 1 ≤ k → k ≤ length s → u ≡ v → v.at ≡ t + k
    → (length s ≡ left) × (t + length s < 2 ^ 64) → (length (rest k s) < left) × (u.at + length (rest k s) < 2 ^ 64)
rest-asked {k} s t {u = u} some long eu place pre =
    let at : u.at ≡ t + k = ap (λ (x : Notes). x.at) eu ∙ place in
    (omega (arith, rest-length k s), omega (arith, rest-length k s))

-- ---- the tables, from the places
-- the loops go over the first n of them
module _ (file places : List ℕ) (n k : ℕ) (noted : k < length (take n places)) where
  at-place : rest (get_or (take n places) k 0) file ≡ drop (get_or places k 0) file
  at-place = rest-is _ file ∙ ap (λ (p : ℕ). drop p file) (get_or-take n places k 0 (omega (arith, length-take n places)))

  pub bodies-more : (table : List Float) {before after : List Float} → before ≡ turns (λ j. body_turn file j (get_or places j 0)) k table
      → after ≡ paste before (26 * k) (body_of (rest (get_or (take n places) k 0) file)) 26
      → after ≡ turns (λ j. body_turn file j (get_or places j 0)) (k + 1) table
  bodies-more table {before} e h =
      h ∙ ap (λ (x : List ℕ). paste before (26 * k) (body_of x) 26) at-place ∙ turns_more (λ j. body_turn file j (get_or places j 0)) k table e

  pub joints-more : (table : List Joint) {before : List Joint} {j : Joint} → before ≡ turns (λ i. joint_turn file i (get_or places i 0)) k table
      → j ≡ joint_of (rest (get_or (take n places) k 0) file) → set before k j ≡ turns (λ i. joint_turn file i (get_or places i 0)) (k + 1) table
  joints-more table {before} e h =
      ap (set before k) (h ∙ ap joint_of at-place) ∙ turns_more (λ j. joint_turn file j (get_or places j 0)) k table e

-- ---- one more place
module _ (places : List ℕ) (n p : ℕ) (room : n < length places) where
  pub all_more : (P : ℕ → Type 0) → ((k : ℕ) → k < n → P (get_or places k 0)) → P p → (k : ℕ) → k < n + 1 → P (get_or (set places n p) k 0)
  all_more P h q =
      below_more (λ k. P (get_or (set places n p) k 0)) n
      (λ k l. subst P (sym (get_or-set_other places n k p 0 (λ e. omega arith))) (h k l))
      (subst P (sym (get_or-set_same places n p 0 room)) q)

  module _ {A : Type 0} (f : ℕ → ℕ → A → A) (a : A) where
    turns-before : (m : ℕ) → m ≤ n → turns (λ k. f k (get_or (set places n p) k 0)) m a ≡ turns (λ k. f k (get_or places k 0)) m a
    unfolding turns
    turns-before zero l = refl
    turns-before (suc m) l =
        let other : get_or (set places n p) m 0 ≡ get_or places m 0 = get_or-set_other places n m p 0 (λ e. omega arith) in
        ap (f m (get_or (set places n p) m 0)) (turns-before m (omega arith)) ∙ ap (λ (j : ℕ). f m j (turns (λ k. f k (get_or places k 0)) m a)) other

    pub turns-noted : f n p (turns (λ k. f k (get_or places k 0)) n a) ≡ turns (λ k. f k (get_or (set places n p) k 0)) (n + 1) a
    turns-noted =
        ap (λ (j : ℕ). f n j (turns (λ k. f k (get_or places k 0)) n a)) (sym (get_or-set_same places n p 0 room))
        ∙ turns_more (λ k. f k (get_or (set places n p) k 0)) n a (sym (turns-before n (omega arith)))

-- ---- the notes with one more record
module _ (s file : List ℕ) (t : Notes) (from : s ≡ drop t.at file) (old : There file t) where
  noted-time-step : (x : Float) → There file (with_time_step x t)
  noted-time-step x =
      record {
        body-space = old.body-space;
        joint-space = old.joint-space;
        few-bodies = old.few-bodies;
        few-joints = old.few-joints;
        bodies = old.bodies;
        joints = old.joints;
      }

  noted-body : BODY ≤ length s → t.bodies.count < 16 → There file (with_body t)
  noted-body long room =
      let p : List ℕ = t.bodies.bytes in
      let n : ℕ = t.bodies.count in
      let within : n < length p = omega (arith, old.body-space) in
      record {
        body-space = length-set p n t.at ∙ old.body-space;
        joint-space = old.joint-space;
        few-bodies = omega arith;
        few-joints = old.few-joints;
        bodies = all_more p n t.at within (BodyAt file) old.bodies (subst (λ (x : List ℕ). BODY ≤ length x) from long);
        joints = old.joints;
      }

  noted-joint : (k : ℕ) → JointThere s → t.joints.count < 16 → There file (with_joint k t)
  noted-joint k long room =
      let p : List ℕ = t.joints.bytes in
      let n : ℕ = t.joints.count in
      let within : n < length p = omega (arith, old.joint-space) in
      record {
        body-space = old.body-space;
        joint-space = length-set p n t.at ∙ old.joint-space;
        few-bodies = old.few-bodies;
        few-joints = omega arith;
        bodies = old.bodies;
        joints = all_more p n t.at within (JointAt file) old.joints (subst JointThere from long);
      }

  module _ (tables : Tables) where
    filled-body : t.bodies.count < 16 → filled_of file tables (with_body t) ≡ File.with_body s (filled_of file tables t)
    unfolding File.with_body
    filled-body room =
        let p : List ℕ = t.bodies.bytes in
        let n : ℕ = t.bodies.count in
        let within : n < length p = omega (arith, old.body-space) in
        let before : List Float = bodies_from file t.bodies tables.bodies in
        let same : bodies_from file (with_place t.at t.bodies) tables.bodies ≡ paste before (26 * n) (body_of s) 26 =
        sym (turns-noted p n t.at within (body_turn file) tables.bodies)
        ∙ ap (λ (x : List ℕ). paste before (26 * n) (body_of x) 26) (sym from) in
        cc

    filled-joint : (k : ℕ) → t.joints.count < 16 → filled_of file tables (with_joint k t) ≡ File.with_joint s (filled_of file tables t)
    unfolding File.with_joint
    filled-joint k room =
        let p : List ℕ = t.joints.bytes in
        let n : ℕ = t.joints.count in
        let within : n < length p = omega (arith, old.joint-space) in
        let before : List Joint = joints_from file t.joints tables.joints in
        let same : joints_from file (with_place t.at t.joints) tables.joints ≡ set before n (joint_of s) =
        sym (turns-noted p n t.at within (joint_turn file) tables.joints) ∙ ap (λ (x : List ℕ). set before n (joint_of x)) (sym from) in
        cc

-- ---- the ways of one turn
-- what a match finds at the head
pub told : {h : Head} {o : Option Record} {r q : Record} → h ≡ Ok o → o ≡ Some r → r ≡ q → h ≡ Ok (Some q)
told e i j = e ∙ ap Ok (i ∙ ap Some j)

module _ (s : List ℕ) (t : Notes) {h : Head} (e : h ≡ head_of s (is_some t.dt) t.bodies.count t.joints.count) where
  pub read-end : h ≡ Ok None → Reads s t (Ok t)
  unfolding read_on next_of
  read-end g zero file tables l from there = absurd (omega arith)
  read-end g (suc n) file tables l from there = record { there = there; is = rw (← (sym g ∙ e)) refl }

  pub read-refused : {o : ReadError} → h ≡ Err o → Reads s t (Err o)
  unfolding read_on next_of
  read-refused g zero file tables l from there = absurd (omega arith)
  read-refused g (suc n) file tables l from there = record { there = tt; is = rw (← (sym g ∙ e)) refl }

  -- k bytes are taken and the notes become v
  turn : {r : Result Notes ReadError} {u v : Notes} (k : ℕ) → u ≡ v → 1 ≤ k → k ≤ length s → v.at ≡ t.at + k → Reads (rest k s) u r
      → (n : ℕ) (file : List ℕ) (tables : Tables) → length s < suc n → s ≡ drop t.at file → There file v → Reaches n file tables (drop k s) v r
  turn {r} {u} {v} k eu some long place ih n file tables l from there =
      let after : rest k s ≡ drop v.at file =
      rest-is k s ∙ ap (drop k) from ∙ drop-drop k t.at file ∙ ap (λ (j : ℕ). drop j file) (sym place) in
      let reads : Reads (rest k s) v r = subst (λ (x : Notes). Reads (rest k s) x r) eu ih in
      subst (λ (x : List ℕ). Reaches n file tables x v r) (rest-is k s) (reads n file tables (omega (arith, rest-length k s)) after there)

  pub read-time-step : h ≡ Ok (Some found.TimeStep) → {r : Result Notes ReadError} {x : Float} {u : Notes} → x ≡ double s NUMBERS → u ≡ with_time_step x t
      → Reads (rest TIME_STEP s) u r → Reads s t r
  unfolding read_on next_of
  read-time-step g i eu ih zero file tables l from there = absurd (omega arith)
  read-time-step g {r} {x} i eu ih (suc n) file tables l from there =
      let there' = noted-time-step s file t from there x in
      let next = turn TIME_STEP eu (omega arith) (room-time-step s _ _ _ e g) refl ih n file tables l from there' in
      record {
        there = next.there;
        is =
            next.is ∙ ap (λ (y : Float). read_on n (drop TIME_STEP s) tables (Some y) (filled_of file tables t)) i
            ∙ rw (← (sym g ∙ e)) refl;
      }

  pub read-body : h ≡ Ok (Some found.Body) → {r : Result Notes ReadError} {u : Notes} → u ≡ with_body t → Reads (rest BODY s) u r → Reads s t r
  unfolding read_on next_of
  read-body g eu ih zero file tables l from there = absurd (omega arith)
  read-body g eu ih (suc n) file tables l from there =
      let room = room-body s _ _ _ e g in
      let there' = noted-body s file t from there room.0 room.1 in
      let next = turn BODY eu (omega arith) room.0 refl ih n file tables l from there' in
      record {
        there = next.there;
        is = next.is ∙ ap (read_on n (drop BODY s) tables t.dt) (filled-body s file t from there tables room.1) ∙ rw (← (sym g ∙ e)) refl;
      }

  pub read-joint : {k : ℕ} → h ≡ Ok (Some (found.Joint k)) → {r : Result Notes ReadError} {u : Notes} → u ≡ with_joint k t
      → Reads (rest k s) u r → Reads s t r
  unfolding read_on next_of
  read-joint g eu ih zero file tables l from there = absurd (omega arith)
  read-joint {k} g eu ih (suc n) file tables l from there =
      let room = room-joint s _ _ _ e g in let long = length-joint s _ _ _ e g in
      let there' = noted-joint s file t from there k room.0 room.1 in
      let next = turn k eu (omega arith) long.0 refl ih n file tables l from there' in
      record {
        there = next.there;
        is = next.is ∙ ap (read_on n (drop k s) tables t.dt) (filled-joint s file t from there tables k room.1) ∙ rw (← (sym g ∙ e)) refl;
      }

-- ---- the whole file
abbrev pub start : Notes
start = record { at = 0; dt = None; bodies = no_places; joints = no_places }

module _ (file : List ℕ) {p q : Places} (ep : p ≡ no_places) (eq : q ≡ no_places) {r : Result Notes ReadError}
    (reads : Reads file (record { at = 0; dt = None; bodies = p; joints = q }) r) where
  there-none : There file start
  there-none =
      record {
        body-space = length-replicate {A = ℕ} 16 0;
        joint-space = length-replicate {A = ℕ} 16 0;
        few-bodies = omega arith;
        few-joints = omega arith;
        bodies = λ k h. absurd (omega arith);
        joints = λ k h. absurd (omega arith);
      }

  whole : (tables : Tables) → Reaches (suc (length file)) file tables file start r
  whole tables =
      let same : record { at = 0; dt = None; bodies = p; joints = q } ≡ start = cc in
      subst (λ (t : Notes). Reads file t r) same reads (suc (length file)) file tables (omega arith) refl there-none

  pub noted-refused : {e : ReadError} → r ≡ Err e → Noted file (Err e)
  unfolding read_of turns
  noted-refused e tables = ap (reading_of file tables) (sym e) ∙ (whole tables).is

  module _ {t : Notes} (e : r ≡ Ok t) where
    ended : (tables : Tables) {x : Option Float} → t.dt ≡ x → ended_of tables x (filled_of file tables t) ≡ read_of file tables
    unfolding read_of turns
    ended tables i =
        ap (λ (x : Option Float). ended_of tables x (filled_of file tables t)) (sym i) ∙ ap (reading_of file tables) (sym e) ∙ (whole tables).is

    -- where there is no time step
    pub noted-none : {dt : Result Float ReadError} → t.dt ≡ result_ok dt → dt ≡ ok_or t.dt NoTimeStep → {o : ReadError} → dt ≡ Err o → Noted file (Err o)
    noted-none {dt} i v {o} w tables =
        let none : t.dt ≡ None = i ∙ ap result_ok w in
        let same : o ≡ NoTimeStep = ap error (sym w ∙ v ∙ ap (λ (x : Option Float). ok_or x NoTimeStep) none) in
        ap (refused tables) same ∙ ended tables none
      where
        error : Result Float ReadError → ReadError
        error (Ok x) = o
        error (Err e) = e

    pub noted-some : {dt : Result Float ReadError} → t.dt ≡ result_ok dt → {x : Float} → dt ≡ Ok x → Noted file (Ok (x, t))
    noted-some i {x} w = (subst (ThereIf file) e (whole empty_of).there, λ tables. ended tables (i ∙ ap result_ok w))
