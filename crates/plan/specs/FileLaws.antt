-- Laws of the plan file: how long a record is, what a record at the head of a file leaves room for, and what a reading keeps.
use Prim.Native.Nat.{ℕ, zero, suc, ◌+◌, ◌*◌, ◌≤◌, ◌<◌}
use Rattle.std.specs.Prelude.{◌≡◌, Bool, true, false, cond, List, ltb, leb, eqb, drop, Float, Option, None, Some, is_some, Ok, Err}
use Rattle.std.proofs.Math.Path.{refl, subst}
use Rattle.std.proofs.Common.{sym, ◌∙◌, ap, drop-drop, drop-set-lt}
use native.Mathlib.Omega.{arith}
use Rattle.std.proofs.Math.ListN.{length, length-set}
use Rattle.std.proofs.lemmas.List.{length-replicate}
use Rattle.std.proofs.Math.Seq.{length-paste}
use Rattle.std.proofs.lemmas.List.Edits.{drop-paste}
use Rattle.std.specs.Float.{binary64}
use Rattle.std.specs.Float.Ieee.{of_bits}
use borrow.Author.Tests.{leb-false, ltb-false, eq-eqb, ne_eqb}
use Rattle.plan.specs.declared.reader.ReadError.{ReadError}
use Rattle.plan.specs.declared.reader.ReadError.TheVariants.{Mark, SecondTimeStep, TooMany, KindByte, Truncated, NoTimeStep}
use Rattle.plan.specs.declared.reader.Tables.{Tables}
use Rattle.plan.specs.declared.reader.Plan.{Plan}
use Rattle.plan.specs.declared.reader.Record.TheVariants as found
use Rattle.arith.specs.Flow.{tab}
use Rattle.plan.specs.File.{TIME_STEP, BODY, KIND, FRAME_A, DISTANCE, CONE_TWIST, JOINT, TABLE}
use Rattle.plan.specs.File.{read_number, byte, marked, joint_length, kind_named, joint_size, JointThere}
use Rattle.plan.specs.File.{DT, BD, JT, Head, time_step_head, body_head, joint_head, head_of}
use Rattle.plan.specs.File.{Reading, ended_of, next_of, read_on, read_of, emptied, with_body, with_joint, body_of, joint_of, empty_of}

-- ---- the length of a joint's record by its kind
pub size-4 : (k : ℕ) → k ≡ 4 → DISTANCE ≡ joint_size k
size-4 k h = simp (eq-eqb _ _ h)

pub size-5 : (k : ℕ) → k ≡ 5 → CONE_TWIST ≡ joint_size k
size-5 k h = rw h refl

pub size-other : (k : ℕ) → (k ≡ 4 → ⊥) → (k ≡ 5 → ⊥) → JOINT ≡ joint_size k
size-other k h g = simp (ne_eqb _ _ h, ne_eqb _ _ g)

pub size-within : (k : ℕ) → (JOINT ≤ joint_size k) × (joint_size k ≤ CONE_TWIST)
size-within k = by (eqb k 4) (eqb k 5)
  where
    by : (a b : Bool) → let size = cond a DISTANCE (cond b CONE_TWIST JOINT) in (JOINT ≤ size) × (size ≤ CONE_TWIST)
    by true b = (omega arith, omega arith)
    by false true = (omega arith, omega arith)
    by false false = (omega arith, omega arith)

pub length_named : (k : ℕ) → k ≤ 5 → joint_length (kind_named k) ≡ joint_size k
unfolding kind_named
length_named zero h = refl
length_named (suc zero) h = refl
length_named (suc (suc zero)) h = refl
length_named (suc (suc (suc zero))) h = refl
length_named (suc (suc (suc (suc zero)))) h = refl
length_named (suc (suc (suc (suc (suc zero))))) h = refl
length_named (suc (suc (suc (suc (suc (suc k)))))) h = absurd (omega arith)

module _ (s : List ℕ) (h : JointThere s) where
  pub there : JOINT ≤ length s
  there = omega (arith, (size-within (byte s KIND)).0)

  pub there-distance : byte s KIND ≡ 4 → DISTANCE ≤ length s
  there-distance e = omega (arith, size-4 (byte s KIND) e)

  pub there-cone : (byte s KIND ≡ 0 → ⊥) → (byte s KIND ≡ 1 → ⊥) → (byte s KIND ≡ 2 → ⊥) → (byte s KIND ≡ 3 → ⊥) → (byte s KIND ≡ 4 → ⊥) → CONE_TWIST ≤ length s
  there-cone h0 h1 h2 h3 h4 = let e : byte s KIND ≡ 5 = omega arith in omega (arith, size-5 (byte s KIND) e)

-- ---- what stands at the head is there to its end, and the tables have room for it
numbered : (e : ReadError) → read_number e ≡ 0 → ⊥
numbered Mark h = omega arith
numbered SecondTimeStep h = omega arith
numbered TooMany h = omega arith
numbered KindByte h = omega arith
numbered Truncated h = omega arith
numbered NoTimeStep h = omega arith

unfoldable pub Room : List ℕ → Bool → ℕ → ℕ → Head → Type 0
Room s seen bodies joints (Err e) = Unit {0}
Room s seen bodies joints (Ok None) = Unit {0}
Room s seen bodies joints (Ok (Some found.TimeStep)) = (TIME_STEP ≤ length s) × (seen ≡ false)
Room s seen bodies joints (Ok (Some found.Body)) = (BODY ≤ length s) × (bodies < 16)
Room s seen bodies joints (Ok (Some (found.Joint n))) = JointThere s × (joints < 16) × (n ≡ joint_size (byte s KIND))

if : (P : Head → Type 0) (b : Bool) {x y : Head} → P x → (b ≡ false → P y) → P (cond b x y)
if P true p q = p
if P false p q = q refl

module _ (s : List ℕ) (seen : Bool) (bodies joints : ℕ) where
  abbrev Fits : Head → Type 0
  Fits = Room s seen bodies joints

  time-step-room : Fits (time_step_head s seen)
  unfolding Room time_step_head
  time-step-room = if Fits seen tt λ g. if Fits (ltb (length s) TIME_STEP) tt λ h. (ltb-false _ _ h, g)

  body-room : Fits (body_head s bodies)
  unfolding Room body_head
  body-room = if Fits (leb 16 bodies) tt λ g. if Fits (ltb (length s) BODY) tt λ h. (ltb-false _ _ h, leb-false _ _ g)

  joint-room : Fits (joint_head s joints)
  unfolding Room joint_head
  joint-room =
      if Fits (leb 16 joints) tt λ g.
      if Fits (ltb (length s) FRAME_A) tt λ _.
      if Fits (ltb 5 (byte s KIND)) tt λ k.
      if Fits (ltb (length s) (joint_size (byte s KIND))) tt λ h. ((ltb-false _ _ k, ltb-false _ _ h), leb-false _ _ g, refl)

  pub head-room : Room s seen bodies joints (head_of s seen bodies joints)
  unfolding Room head_of
  head-room =
      if Fits (eqb (length s) 0) tt λ _.
      if Fits (ltb (length s) 2) tt λ _.
      if Fits (marked s DT) time-step-room λ _.
      if Fits (marked s BD) body-room λ _.
      if Fits (marked s JT) joint-room λ _. tt

  module _ {h : Head} (e : h ≡ head_of s seen bodies joints) where
    pub room-refused : {o : ReadError} → h ≡ Err o → read_number o ≡ 0 → ⊥
    room-refused {o} g = numbered o

    pub room-time-step : h ≡ Ok (Some found.TimeStep) → TIME_STEP ≤ length s
    unfolding Room
    room-time-step g = (subst Fits (sym e ∙ g) head-room).0

    pub room-body : h ≡ Ok (Some found.Body) → (BODY ≤ length s) × (bodies < 16)
    unfolding Room
    room-body g = subst Fits (sym e ∙ g) head-room

    pub room-joint : {n : ℕ} → h ≡ Ok (Some (found.Joint n)) → JointThere s × (joints < 16) × (n ≡ joint_size (byte s KIND))
    unfolding Room
    room-joint g = subst Fits (sym e ∙ g) head-room

    pub length-joint : {n : ℕ} → h ≡ Ok (Some (found.Joint n)) → (n ≤ length s) × (JOINT ≤ n)
    length-joint g = let r = room-joint g in omega (arith, r.0.1, r.2, (size-within (byte s KIND)).0)

-- ---- what a reading keeps
-- t has records in the space of the tables that came, and the space after them is as it was
pub record Kept (tables t : Tables) : Type 0 where
  pub body-room : t.body_count ≤ 16
  pub joint-room : t.joint_count ≤ 16
  pub body-length : length t.bodies ≡ TABLE
  pub joint-length : length t.joints ≡ 16
  pub bodies-after : drop (26 * t.body_count) t.bodies ≡ drop (26 * t.body_count) tables.bodies
  pub joints-after : drop t.joint_count t.joints ≡ drop t.joint_count tables.joints

-- either the tables hold what was read, or they are those that came
abbrev pub Kept-or-same : Tables → Reading → Type 0
Kept-or-same tables (Ok plan) = Kept tables plan.tables
Kept-or-same tables (Err refusal) = refusal.tables ≡ tables

drop-on : {A : Type 0} (a b : ℕ) (x y : List A) → drop a x ≡ drop a y → drop (a + b) x ≡ drop (a + b) y
drop-on a b x y e = sym (drop-drop b a x) ∙ ap (drop b) e ∙ drop-drop b a y

body-of-length : (s : List ℕ) → length (body_of s) ≡ 26
unfolding body_of tab
body-of-length s = refl

module _ (tables : Tables) where
  kept-body : (s : List ℕ) (t : Tables) → t.body_count < 16 → Kept tables t → Kept tables (with_body s t)
  unfolding with_body
  kept-body s t h k =
      let n : ℕ = t.body_count in
      let next : 26 * (n + 1) ≡ 26 * n + 26 = omega arith in
      let long : 26 * n + 26 ≤ length t.bodies = omega (arith, k.body-length) in
      let most : 26 ≤ length (body_of s) = omega (arith, body-of-length s) in
      record {
        body-room = omega arith;
        joint-room = k.joint-room;
        body-length = length-paste t.bodies (26 * n) (body_of s) 26 long most ∙ k.body-length;
        joint-length = k.joint-length;
        bodies-after =
            rw next
            (drop-paste t.bodies (26 * n) (body_of s) 26 (omega arith) most ∙ drop-on (26 * n) 26 t.bodies tables.bodies k.bodies-after);
        joints-after = k.joints-after;
      }

  kept-joint : (s : List ℕ) (t : Tables) → t.joint_count < 16 → Kept tables t → Kept tables (with_joint s t)
  unfolding with_joint
  kept-joint s t h k =
      let n : ℕ = t.joint_count in
      record {
        body-room = k.body-room;
        joint-room = omega arith;
        body-length = k.body-length;
        joint-length = length-set t.joints n (joint_of s) ∙ k.joint-length;
        bodies-after = k.bodies-after;
        joints-after = drop-set-lt (n + 1) t.joints n (joint_of s) (omega arith) ∙ drop-on n 1 t.joints tables.joints k.joints-after;
      }

  kept-end : (dt : Option Float) (t : Tables) → Kept tables t → Kept-or-same tables (ended_of tables dt t)
  kept-end None t k = refl
  kept-end (Some x) t k = k

  kept_next : (h : Head) (s : List ℕ) (dt : Option Float) (t : Tables) (more : ℕ → Option Float → Tables → Reading)
      → Room s (is_some dt) t.body_count t.joint_count h → Kept tables t
      → ((k : ℕ) (x : Option Float) (u : Tables) → Kept tables u → Kept-or-same tables (more k x u)) → Kept-or-same tables (next_of h s tables dt t more)
  unfolding Room next_of
  kept_next (Err e) s dt t more r k ih = refl
  kept_next (Ok None) s dt t more r k ih = kept-end dt t k
  kept_next (Ok (Some found.TimeStep)) s dt t more r k ih = ih TIME_STEP _ t k
  kept_next (Ok (Some found.Body)) s dt t more r k ih = ih BODY dt (with_body s t) (kept-body s t r.1 k)
  kept_next (Ok (Some (found.Joint n))) s dt t more r k ih = ih n dt (with_joint s t) (kept-joint s t r.1 k)

  kept_on : (n : ℕ) (s : List ℕ) (dt : Option Float) (t : Tables) → Kept tables t → Kept-or-same tables (read_on n s tables dt t)
  unfolding read_on
  kept_on zero s dt t k = refl
  kept_on (suc n) s dt t k =
      kept_next (head_of s (is_some dt) t.body_count t.joint_count) s dt t (λ k x u. read_on n (drop k s) tables x u)
      (head-room s (is_some dt) t.body_count t.joint_count) k (λ j x u q. kept_on n (drop j s) x u q)

  -- a reading into tables of sixteen and sixteen
  pub reading-keeps : (file : List ℕ) → length tables.bodies ≡ TABLE → length tables.joints ≡ 16 → Kept-or-same tables (read_of file tables)
  unfolding read_of
  reading-keeps file h g =
      kept_on (suc (length file)) file None (emptied tables)
      (record { body-room = omega arith; joint-room = omega arith; body-length = h; joint-length = g; bodies-after = refl; joints-after = refl })

-- a plan that was read into empty tables counts at most sixteen of each
pub read-few : (file : List ℕ) {r : Reading} {plan : Plan} → r ≡ read_of file empty_of → r ≡ Ok plan
    → (plan.tables.body_count ≤ 16) × (plan.tables.joint_count ≤ 16)
unfolding empty_of
read-few file {r} {plan} e i =
    let k : Kept-or-same empty_of (read_of file empty_of) = reading-keeps empty_of file (length-replicate TABLE (of_bits binary64 0)) (simp length-replicate) in
    let q : Kept empty_of plan.tables = subst (Kept-or-same empty_of) (sym e ∙ i) k in
    (q.body-room, q.joint-room)
