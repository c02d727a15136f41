-- What an accepted plan is: each of refusals 1 to 9 in turn, turned round.
use Rattle.std.specs.Prelude.{ℕ, ◌/◌, ◌%◌, ◌≤◌, ◌<◌, ◌≡◌, refl, List, Bool, false, not, ◌&&◌, ltb, leb, eqb, length, Float}
use Rattle.std.proofs.Common.{sym, arith}
use Rattle.std.proofs.Math.Bool.{true}
use borrow.Author.Tests.{ltb-true, ltb-false, leb-true, eqb-true, eqb-false, not-true}
use Rattle.std.specs.Float.Ieee as Ieee
use Rattle.arith.specs.Real.{ratio, is_finite}
use Rattle.arith.specs.Flow.{Turn, go, stop, and_then, ◌>>=◌, return_if, every}
use Rattle.arith.specs.FlowLaws.{every-at}
use Rattle.rows.specs.declared.geometry.Joint.{Joint}
use Rattle.rows.specs.View.{at}
use Rattle.rows.specs.Laws.Results.{step, not-returned}
use Rattle.step.specs.declared.Refusal.{Refusal}
use Rattle.step.specs.declared.Refusal.TheVariants.{TimeStep, Bodies, Joints, Scratch, NotFinite, OutOfRange, Inertia}
use Rattle.step.specs.declared.Refusal.TheVariants.{JointBodies, JointNumbers, NonConvergent, ArithmeticOverflow, Ground}
use Rattle.solves.specs.Layout.{BODIES_MOST}
use Rattle.step.specs.Layout.{RECORD, SCRATCH}
use Rattle.step.specs.Records.{record_at, count_of_bodies}
use Rattle.step.specs.Checks.{number_of, time_step_ok, bodies_fit, body_in_range, joins_two, joint_ok, joint_in}
use Rattle.step.specs.Checks.{sizes_or, bodies_or, joints_or, refusal_of}
use Rattle.step.specs.Joined.{Joined, Sizes}

-- none of refusals 1 to 9
pub record Unrefused (bodies : List Float) (joints : List Joint) (count : ℕ) (dt : Float) (scratch : ℕ) : Type 0 where
  pub forward : Ieee.lt (ratio 0 1) dt ≡ true
  pub whole : length bodies % RECORD ≡ 0
  pub small : count_of_bodies bodies ≤ BODIES_MOST
  pub few : count ≤ 16
  pub room : SCRATCH ≤ scratch
  pub finite : (k : ℕ) → k < length bodies → is_finite (at bodies k) ≡ true
  pub in-range : (k : ℕ) → k < count_of_bodies bodies → body_in_range (record_at bodies k) ≡ true
  pub a-there : (k : ℕ) → k < count → (joint_in joints k).body_a < count_of_bodies bodies
  pub b_there : (k : ℕ) → k < count → (joint_in joints k).body_b < count_of_bodies bodies
  pub apart : (k : ℕ) → k < count → (joint_in joints k).body_a ≡ (joint_in joints k).body_b → ⊥
  pub numbers : (k : ℕ) → k < count → joint_ok (joint_in joints k) ≡ true

-- ---- one test at a time: the answer goes on only where it passed
both : (a b : Bool) → (a && b) ≡ true → (a ≡ true) × (b ≡ true)
both true b e = (refl, e)
both false true e = (e, refl)
both false false e = (e, e)

passed : (a : Bool) (x : Refusal) {u : Unit {0}} → return_if (not a) x ≡ go u → a ≡ true
passed true x h = refl
passed false x {u} h = absurd (not-returned true x u h)

below : (a : Bool) (x : Refusal) {u : Unit {0}} → return_if a x ≡ go u → a ≡ false
below true x {u} h = absurd (not-returned true x u h)
below false x h = refl

-- of a chain: what each of its links answered
pub sizes-ready : (doubles count : ℕ) (dt : Float) (scratch : ℕ) {u : Unit {0}} → sizes_or doubles count dt scratch ≡ go u
    → (time_step_ok dt ≡ true) × (bodies_fit doubles ≡ true) × Sizes doubles count scratch
unfolding sizes_or
sizes-ready doubles count dt scratch {u} h =
    let r₁ = step _ _ u h in
    let r₂ = step _ _ u r₁.2 in
    let r₃ = step _ _ u r₂.2 in
    let fit : bodies_fit doubles ≡ true = passed (bodies_fit doubles) Bodies r₂.1 in (
      passed (time_step_ok dt) TimeStep r₁.1,
      fit,
      record {
        small = leb-true _ _ (both (eqb (doubles % RECORD) 0) (leb (doubles / RECORD) BODIES_MOST) fit).1;
        few = ltb-false _ _ (below (ltb 16 count) Joints r₃.1);
        room = ltb-false _ _ (below (ltb scratch SCRATCH) Scratch r₃.2);
      },
    )

module _ (body-count : ℕ) (joint : Joint) (e : joins_two body-count joint ≡ true) where
  there : ((ltb joint.body_a body-count && ltb joint.body_b body-count) ≡ true) × (not (eqb joint.body_a joint.body_b) ≡ true)
  there = both (ltb joint.body_a body-count && ltb joint.body_b body-count) (not (eqb joint.body_a joint.body_b)) e

  two : (joint.body_a < body-count) × (joint.body_b < body-count)
  two =
      let p = both (ltb joint.body_a body-count) (ltb joint.body_b body-count) there.0 in
      (ltb-true _ _ p.0, ltb-true _ _ p.1)

  different : joint.body_a ≡ joint.body_b → ⊥
  different = eqb-false _ _ (not-true _ there.1)

-- ---- the number of a refusal
stop-number : (refusal : Refusal) → 1 ≤ number_of (stop refusal)
stop-number TimeStep = omega arith
stop-number Bodies = omega arith
stop-number Joints = omega arith
stop-number Scratch = omega arith
stop-number NotFinite = omega arith
stop-number OutOfRange = omega arith
stop-number Inertia = omega arith
stop-number JointBodies = omega arith
stop-number JointNumbers = omega arith
stop-number NonConvergent = omega arith
stop-number ArithmeticOverflow = omega arith
stop-number Ground = omega arith

pub number-zero : (o : Turn (Unit {0}) Refusal) → number_of o ≡ 0 → o ≡ go tt
number-zero (go u) e = refl
number-zero (stop refusal) e = absurd (omega (arith, stop-number refusal))

-- one more test of a number that is at most 9
numbered : (b : Bool) (x : Refusal) (f : Unit {0} → Turn (Unit {0}) Refusal) → number_of (stop x) ≤ 9 → number_of (f tt) ≤ 9
    → number_of (return_if b x >>= f) ≤ 9
unfolding and_then
numbered true x f h g = h
numbered false x f h g = g

numbered-last : (b : Bool) (x : Refusal) → number_of (stop x) ≤ 9 → number_of (return_if b x) ≤ 9
numbered-last true x h = h
numbered-last false x h = omega arith

linked : (r : Turn (Unit {0}) Refusal) (f : Unit {0} → Turn (Unit {0}) Refusal) → number_of r ≤ 9 → number_of (f tt) ≤ 9 → number_of (r >>= f) ≤ 9
unfolding and_then
linked (go u) f h g = g
linked (stop x) f h g = h

module _ (bodies : List Float) (joints : List Joint) (count : ℕ) (dt : Float) (scratch : ℕ) where
  least-nine : number_of (refusal_of bodies joints count dt scratch) ≤ 9
  unfolding refusal_of sizes_or bodies_or joints_or
  least-nine =
      linked _ _
      (numbered _ TimeStep _ (omega arith) (numbered _ Bodies _ (omega arith) (numbered _ Joints _ (omega arith) (numbered-last _ Scratch (omega arith)))))
      (linked _ _
      (numbered _ NotFinite _ (omega arith) (numbered _ OutOfRange _ (omega arith) (numbered-last _ Inertia (omega arith))))
      (numbered _ JointBodies _ (omega arith) (numbered-last _ JointNumbers (omega arith))))

  -- a refusal has one of the numbers 1 to 9
  pub refused-number : (refusal_of bodies joints count dt scratch ≡ go tt → ⊥)
      → (1 ≤ number_of (refusal_of bodies joints count dt scratch)) × (number_of (refusal_of bodies joints count dt scratch) ≤ 9)
  refused-number h = (above _ (λ e. h (number-zero _ e)), least-nine)
    where
      above : (n : ℕ) → (n ≡ 0 → ⊥) → 1 ≤ n
      above n q = omega arith

  pub accepted : refusal_of bodies joints count dt scratch ≡ go tt → Unrefused bodies joints count dt scratch
  unfolding refusal_of bodies_or joints_or
  accepted h =
      let l₁ = step _ _ tt h in
      let l₂ = step _ _ tt l₁.2 in
      let s = sizes-ready (length bodies) count dt scratch l₁.1 in
      let r₁ = step _ _ tt l₂.1 in
      let r₂ = step _ _ tt r₁.2 in
      let r₃ = step _ _ tt l₂.2 in
      let p₅ = passed (every (length bodies) (λ k. is_finite (at bodies k))) NotFinite r₁.1 in
      let p₆ = passed (every (count_of_bodies bodies) (λ k. body_in_range (record_at bodies k))) OutOfRange r₂.1 in
      let p₈ = passed (every count (λ k. joins_two (count_of_bodies bodies) (joint_in joints k))) JointBodies r₃.1 in
      let p₉ = passed (every count (λ k. joint_ok (joint_in joints k))) JointNumbers r₃.2 in
      let joins : (k : ℕ) → k < count → joins_two (count_of_bodies bodies) (joint_in joints k) ≡ true =
      λ k h. every-at (λ (j : ℕ). joins_two (count_of_bodies bodies) (joint_in joints j)) count (sym p₈) h in
      record {
        forward = (both (is_finite dt) (Ieee.lt (ratio 0 1) dt) s.0).1;
        whole = eqb-true _ _ (both (eqb (length bodies % RECORD) 0) (leb (count_of_bodies bodies) BODIES_MOST) s.1).0;
        small = s.2.small;
        few = s.2.few;
        room = s.2.room;
        finite = λ k h. every-at (λ (j : ℕ). is_finite (at bodies j)) (length bodies) (sym p₅) h;
        in-range = λ k h. every-at (λ (j : ℕ). body_in_range (record_at bodies j)) (count_of_bodies bodies) (sym p₆) h;
        a-there = λ k h. (two (count_of_bodies bodies) (joint_in joints k) (joins k h)).0;
        b_there = λ k h. (two (count_of_bodies bodies) (joint_in joints k) (joins k h)).1;
        apart = λ k h. different (count_of_bodies bodies) (joint_in joints k) (joins k h);
        numbers = λ k h. every-at (λ (j : ℕ). joint_ok (joint_in joints j)) count (sym p₉) h;
      }

-- what a run asks for
pub unrefused-joined : {bodies : List Float} {joints : List Joint} {count : ℕ} {dt : Float} {scratch : ℕ} → Unrefused bodies joints count dt scratch
    → Joined joints count (count_of_bodies bodies)
unrefused-joined r = record { few = r.few; small = r.small; a-there = r.a-there; b_there = r.b_there }
