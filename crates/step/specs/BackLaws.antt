-- The records that an accepted step hands back: the first 13 doubles of each are its state's, the other 13 are as they were.
use Rattle.std.specs.Prelude.{ℕ, ◌+◌, ◌*◌, ◌/◌, ◌%◌, ◌≤◌, ◌<◌, ◌≡◌, refl, cond, List, ltb, length, Float}
use Rattle.std.proofs.Common.{sym, ◌∙◌, ap, subst, zero-add, lt-ltb, le-ltb, ext_get_or}
use Rattle.std.proofs.Math.Path.{ap₂}
use native.Mathlib.Omega.{arith}
use Rattle.std.proofs.Math.Decide.{dec_lt}
use Rattle.std.specs.Float.Ieee.{nan}
use Rattle.arith.specs.FlowLaws.{cond_yes, cond_no}
use Rattle.rows.specs.declared.body.BodyState.{BodyState}
use Rattle.rows.specs.View.{at}
use Rattle.rows.specs.Region.{tab-length, tab-at}
use Rattle.step.specs.Layout.{RECORD, MOVING, CANDIDATE}
use Rattle.step.specs.Records.{count_of_bodies}
use Rattle.step.specs.View.{states_at, Handed, state_at, no_state}
use Rattle.step.specs.ViewLaws.{state-at, handed-new, handed-old}
use Rattle.step.specs.Bodies.{state_in}
use Rattle.step.specs.Step.{state_doubles, hand_back}

-- the 13 doubles of the state at i are those at i, and a state is known by its 13
doubles-at : (s : List Float) (i j : ℕ) → j < MOVING → at (state_doubles (state_at s i)) j ≡ at s (i + j)
doubles-at s i j h = sym (ap (at (state_doubles (state_at s i))) (zero-add j)) ∙ state-at s (state_doubles (state_at s i)) 0 i refl j h

module _ (s : List Float) (i : ℕ) (state : BodyState) (e : (j : ℕ) → j < MOVING → at s (i + j) ≡ at (state_doubles state) j) where
  double : (k j : ℕ) → j < MOVING → k ≡ i + j → at s k ≡ at (state_doubles state) j
  double k j h q = ap (at s) q ∙ e j h

  pub state-is : state_at s i ≡ state
  state-is = λ t. record {
    origin = record {
      x = double i 0 (omega arith) (omega arith) t;
      y = double (i + 1) 1 (omega arith) (omega arith) t;
      z = double (i + 2) 2 (omega arith) (omega arith) t;
    };
    rotation = record {
      x = double (i + 3) 3 (omega arith) (omega arith) t;
      y = double (i + 3 + 1) 4 (omega arith) (omega arith) t;
      z = double (i + 3 + 2) 5 (omega arith) (omega arith) t;
      w = double (i + 3 + 3) 6 (omega arith) (omega arith) t;
    };
    linear_velocity = record {
      x = double (i + 7) 7 (omega arith) (omega arith) t;
      y = double (i + 7 + 1) 8 (omega arith) (omega arith) t;
      z = double (i + 7 + 2) 9 (omega arith) (omega arith) t;
    };
    angular_velocity = record {
      x = double (i + 10) 10 (omega arith) (omega arith) t;
      y = double (i + 10 + 1) 11 (omega arith) (omega arith) t;
      z = double (i + 10 + 2) 12 (omega arith) (omega arith) t;
    };
  }

module _ (bodies : List Float) (states : List BodyState) where
  pub back-length : length (hand_back bodies states) ≡ length bodies
  unfolding hand_back
  back-length = tab-length (length bodies) _

  -- double j of record k stands at i
  abbrev chosen : ℕ → ℕ → ℕ → Float
  chosen k j i = cond (ltb j MOVING) (at (state_doubles (state_in states k)) j) (at bodies i)

  module _ (k j : ℕ) (l : RECORD * k + j < length bodies) where
    back_at : j < RECORD → at (hand_back bodies states) (RECORD * k + j) ≡ chosen k j (RECORD * k + j)
    unfolding hand_back
    back_at h =
        let q : (RECORD * k + j) / RECORD ≡ k = omega arith in
        let r : (RECORD * k + j) % RECORD ≡ j = omega arith in
        tab-at (length bodies) (λ i. chosen (i / RECORD) (i % RECORD) i) nan (RECORD * k + j) l ∙ ap₂ (λ (a b : ℕ). chosen a b (RECORD * k + j)) q r

    pub back-new : j < MOVING → at (hand_back bodies states) (RECORD * k + j) ≡ at (state_doubles (state_in states k)) j
    back-new h = back_at (omega arith) ∙ sym (cond_yes _ _ (lt-ltb j MOVING h))

    pub back-old : MOVING ≤ j → j < RECORD → at (hand_back bodies states) (RECORD * k + j) ≡ at bodies (RECORD * k + j)
    back-old a b = back_at b ∙ sym (cond_no _ _ (le-ltb j MOVING a))

  -- the state that a record begins with
  pub back-state : (k : ℕ) → k < count_of_bodies bodies → state_at (hand_back bodies states) (RECORD * k) ≡ state_in states k
  back-state k l = state-is (hand_back bodies states) (RECORD * k) (state_in states k) (λ j h. back-new k j (omega arith) h)

-- what the code wrote into the records is what the step hands back
pub handed-back : (body-count : ℕ) (s : List Float) {bodies after : List Float} → body-count ≡ count_of_bodies bodies → length bodies % RECORD ≡ 0
    → Handed body-count s bodies after → after ≡ hand_back bodies (states_at s body-count)
handed-back body-count s {bodies} {after} e w h =
    ext_get_or nan after (hand_back bodies (states_at s body-count)) (h.kept.size ∙ sym (back-length bodies (states_at s body-count))) same
  where
    in-record : (k j : ℕ) → k < body-count → RECORD * k + j < length bodies → j < RECORD → Dec (j < MOVING)
        → at after (RECORD * k + j) ≡ at (hand_back bodies (states_at s body-count)) (RECORD * k + j)
    in-record k j l m b (yes a) =
        handed-new h k l j a ∙ sym (doubles-at s (CANDIDATE + MOVING * k) j a)
        ∙ ap (λ (t : BodyState). at (state_doubles t) j) (sym (tab-at body-count (λ i. state_at s (CANDIDATE + MOVING * i)) no_state k l))
        ∙ sym (back-new bodies (states_at s body-count) k j m a)
    in-record k j l m b (no a) = handed-old h k l j (omega arith) b ∙ sym (back-old bodies (states_at s body-count) k j m (omega arith) b)

    same : (i : ℕ) → i < length after → at after i ≡ at (hand_back bodies (states_at s body-count)) i
    same i l =
        let size : length after ≡ length bodies = h.kept.size in
        let q : RECORD * (i / RECORD) + i % RECORD ≡ i = omega arith in
        subst (λ (m : ℕ). at after m ≡ at (hand_back bodies (states_at s body-count)) m) q
        (in-record (i / RECORD) (i % RECORD) (omega arith) (omega arith) (omega arith) (dec_lt (i % RECORD) MOVING))
