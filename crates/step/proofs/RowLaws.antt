-- The rows of all joints, one joint behind the other: `row_bodies` lists the bodies of each row, `write_rows` writes the rows.
use Prim.Native.Nat.{ℕ, zero, suc, ◌+◌, ◌*◌, ◌≤◌, ◌<◌}
use mathlib.Core.Path.{◌≡◌, refl, sym, ◌∙◌, ap, subst}
use mathlib.Core.Bool.{Bool, cond}
use mathlib.Core.List.{List, [], ◌∷◌, ◌++◌}
use native.Mathlib.Omega.{arith}
use native.Mathlib.Decide.{ℕ_discrete}
use lib.ListN.{get_or, take}
use Rattle.std.proofs.lemmas.List.{get_or-take}
use lib.Ieee.{Float}
use Rattle.std.specs.Prelude.{Ok, Err}
use Rattle.arith.specs.Flow.{go, stop, ◌>>=◌, turns, loop, tab}
use Rattle.arith.specs.FlowLaws.{turns-none, turns_more, then-go, then-stop, loop-none, loop-more, loop-stop, loop-end}
use Rattle.rows.specs.declared.body.MomentumBody.{MomentumBody}
use Rattle.rows.specs.declared.geometry.Joint.{Joint}
use Rattle.rows.specs.declared.geometry.EqualityRow.{EqualityRow}
use Rattle.rows.specs.Fault.{CollisionError, Result}
use Rattle.rows.specs.Geometry.{write_equality_rows}
use Rattle.rows.specs.Count.{row_count}
use Rattle.rows.specs.View.{row_at, Out, Kept}
use Rattle.rows.specs.Answer.{written_as, Writes}
use Rattle.rows.specs.Region.{count_most, tab-ext, kept_refl, kept_then, kept_row}
use Rattle.solves.specs.Region.{Does}
use Rattle.solves.specs.View.{ROWS, row_on, rows_on}
use Rattle.solves.specs.Layout.{ROW_TABLE}
use Rattle.step.specs.Checks.{joint_in}
use Rattle.step.specs.Joined.{Joined, Spread}
use Rattle.step.specs.View.{start_body_at, candidate_at}
use Rattle.step.specs.Bodies.{joint_rows, write_rows}
use Rattle.step.specs.RunView.{bodies_at, rows_before, Sides}
use Rattle.step.proofs.FrameLaws.{body-in}

-- ---- where the rows of a joint stand
module _ (joints : List Joint) where
  abbrev rows_of : ℕ → ℕ
  rows_of k = row_count (joint_in joints k).kind

  pub before-none : 0 ≡ rows_before joints 0
  before-none = turns-none (λ j n. n + rows_of j) 0

  pub before_more : (k n : ℕ) {m : ℕ} → n ≡ rows_before joints k → m ≡ rows_of k → n + m ≡ rows_before joints (k + 1)
  before_more k n e h = ap (λ (x : ℕ). n + x) h ∙ turns_more (λ j n. n + rows_of j) k 0 e

  pub before-most : (k : ℕ) → rows_before joints k ≤ 6 * k
  unfolding turns
  before-most zero = omega arith
  before-most (suc k) = omega (arith, before-most k, count_most (joint_in joints k).kind)

  before-rise : (k : ℕ) (j i : ℕ) → j < k → i < rows_of j → rows_before joints j + i < rows_before joints k
  unfolding turns
  before-rise zero j i h l = absurd (omega arith)
  before-rise (suc k) j i h l = case (ℕ_discrete j k) (before-rise k j i)
    where
      case : Dec (j ≡ k) → (j < k → i < rows_of j → rows_before joints j + i < rows_before joints k)
          → rows_before joints j + i < rows_before joints k + rows_of k
      case (yes e) ih =
          subst (λ (x : ℕ). rows_before joints j + i < rows_before joints x + rows_of x) e
          (let z : rows_before joints j + i < rows_before joints j + rows_of j = omega arith in z)
      case (no q) ih = let z : rows_before joints j + i < rows_before joints k = ih (omega arith) l in omega arith

  pub sides-none : {ia ib : List ℕ} → Sides joints 0 ia ib
  sides-none {ia} {ib} = record { a-is = λ k i h l. absurd (omega arith); b-is = λ k i h l. absurd (omega arith) }

  pub sides-more : (k : ℕ) {n m : ℕ} {ia ib ja jb : List ℕ} → Sides joints k ia ib → n ≡ rows_before joints k → m ≡ rows_of k
      → Spread n m (joint_in joints k).body_a ia ja → Spread n m (joint_in joints k).body_b ib jb → Sides joints (k + 1) ja jb
  sides-more k {n} {m} {ia} {ib} {ja} {jb} s e h p q = record {
    a-is = λ j i l g. one ia ja (λ j. (joint_in joints j).body_a) p s.a-is j i l g (ℕ_discrete j k);
    b-is = λ j i l g. one ib jb (λ j. (joint_in joints j).body_b) q s.b-is j i l g (ℕ_discrete j k);
  }
    where
      one : (x y : List ℕ) (body : ℕ → ℕ) → Spread n m (body k) x y → ((j i : ℕ) → j < k → i < rows_of j → get_or x (rows_before joints j + i) 0 ≡ body j)
          → (j i : ℕ) → j < k + 1 → i < rows_of j → Dec (j ≡ k) → get_or y (rows_before joints j + i) 0 ≡ body j
      one x y body t f j i l g (yes r) =
          subst (λ (z : ℕ). i < rows_of z → get_or y (rows_before joints z + i) 0 ≡ body z) (sym r)
          (λ d. t.here (rows_before joints k + i) (omega arith) (omega arith)) g
      one x y body t f j i l g (no r) =
          let u : rows_before joints j + i < rows_before joints k = before-rise k j i (omega arith) g in
          t.before (rows_before joints j + i) (omega arith) ∙ f j i (omega arith) g

  pub sides-end : {k count : ℕ} {ia ib : List ℕ} → k ≤ count → count ≤ k → Sides joints k ia ib → Sides joints count ia ib
  sides-end a b s = record { a-is = λ j i h l. s.a-is j i (omega arith) l; b-is = λ j i h l. s.b-is j i (omega arith) l }

  -- in the lists of all rows
  pub sides-taken : (count n : ℕ) {ia ib : List ℕ} → Sides joints count ia ib → n ≡ rows_before joints count → Sides joints count (take n ia) (take n ib)
  sides-taken count n {ia} {ib} s e = record {
    a-is = λ k i h l. get_or-take n ia _ 0 (inside k i h l) ∙ s.a-is k i h l;
    b-is = λ k i h l. get_or-take n ib _ 0 (inside k i h l) ∙ s.b-is k i h l;
  }
    where
      inside : (k i : ℕ) → k < count → i < rows_of k → rows_before joints k + i < n
      inside k i h l = omega (arith, before-rise count k i h l)

-- ---- lists one behind the other
tab-append : {A : Type 0} (n m : ℕ) (f : ℕ → A) → tab (n + m) f ≡ tab n f ++ tab m (λ i. f (n + i))
unfolding tab
tab-append n zero f = ap (λ (k : ℕ). tab k f) (let z : n + 0 ≡ n = omega arith in z) ∙ sym (nil-right (tab n f))
  where
    nil-right : {A : Type 0} (xs : List A) → xs ++ [] ≡ xs
    nil-right [] = refl
    nil-right (x ∷ xs) = ap (λ ys. x ∷ ys) (nil-right xs)
tab-append n (suc m) f =
    ap (λ (k : ℕ). tab k f) (let z : n + suc m ≡ suc (n + m) = omega arith in z)
    ∙ ap (λ xs. xs ++ (f (n + m) ∷ [])) (tab-append n m f)
    ∙ assoc (tab n f) (tab m (λ i. f (n + i))) (f (n + m) ∷ [])
  where
    assoc : {A : Type 0} (xs ys zs : List A) → (xs ++ ys) ++ zs ≡ xs ++ (ys ++ zs)
    assoc [] ys zs = refl
    assoc (x ∷ xs) ys zs = ap (λ us. x ∷ us) (assoc xs ys zs)

-- ---- write_rows
pub wrote-rows : (joints : List Joint) (k n : ℕ) → n ≡ rows_before joints k → {a b : MomentumBody} {i : ℕ} {s t : List Float} {r : Result ℕ}
    → Writes (joint_in joints k) a b i s t r → (m : ℕ) → r ≡ Ok m → n + m ≡ rows_before joints (k + 1)
wrote-rows joints k n p w m q = before_more joints k n p (w.count m q)

module _ (joints : List Joint) (count : ℕ) (moved : Bool) (place : ℕ) (s₀ : List Float) (body-count : ℕ) (J : Joined joints count body-count) (ia ib : List ℕ)
    (S : Sides joints count ia ib) where
  abbrev writing : ℕ → List EqualityRow → Result (List EqualityRow)
  writing k before = joint_rows joints (bodies_at moved s₀ body-count) k >>= λ local. go (before ++ local)

  abbrev pub Wrote : ℕ → ℕ → List Float → Type 0
  Wrote k n s = Does (Out place ROW_TABLE) s₀ s (go (rows_on ia ib s place n)) (loop k writing [])

  pub wrote_none : Wrote 0 0 s₀
  unfolding tab
  wrote_none = record { kept = kept_refl _ s₀; is = loop-none writing [] }

  module _ (k n : ℕ) (s : List Float) (so : Wrote k n s) (h : k < count) (g : n ≤ 90) (l : place ≤ ROWS) (p : n ≡ rows_before joints k) {a b : MomentumBody}
      (ea : a ≡ cond moved (candidate_at s (joint_in joints k).body_a) (start_body_at s (joint_in joints k).body_a))
      (eb : b ≡ cond moved (candidate_at s (joint_in joints k).body_b) (start_body_at s (joint_in joints k).body_b))
      {t : List Float} (r : Result ℕ) (w : Writes (joint_in joints k) a b (place + 14 * n) s t r) where
    rows_are : written_as r t (place + 14 * n) (joint_in joints k).body_a (joint_in joints k).body_b ≡ joint_rows joints (bodies_at moved s₀ body-count) k
    rows_are =
        w.is
        ∙ ap (λ (x : MomentumBody). write_equality_rows (joint_in joints k) x b)
        (body-in so.kept (λ i x y. omega arith) (λ i x y. omega arith) moved body-count _ (J.a-there k h) J.small ea)
        ∙ ap (write_equality_rows (joint_in joints k) _)
        (body-in so.kept (λ i x y. omega arith) (λ i x y. omega arith) moved body-count _ (J.b_there k h) J.small eb)

    case : {x : Result ℕ} → r ≡ x
        → written_as x t (place + 14 * n) (joint_in joints k).body_a (joint_in joints k).body_b ≡ joint_rows joints (bodies_at moved s₀ body-count) k
    case q = sym (ap (λ (y : Result ℕ). written_as y t (place + 14 * n) (joint_in joints k).body_a (joint_in joints k).body_b) q) ∙ rows_are

    kept : Kept (Out place ROW_TABLE) s₀ t
    kept = kept_then so.kept w.kept (λ i x. omega arith)

    pub wrote-again : {m : ℕ} → r ≡ Ok m → Wrote (k + 1) (n + m) t
    wrote-again {m} q = record {
      kept = kept;
      is =
          ap go
          (tab-append n m (row_on ia ib t place) ∙ ap (λ xs. xs ++ tab m (λ i. row_on ia ib t place (n + i))) (tab-ext n old) ∙ ap
          (λ xs. rows_on ia ib s place n ++ xs) (tab-ext m new))
          ∙ loop-more writing [] so.is (then-go (λ local. go (rows_on ia ib s place n ++ local)) (case q));
    }
      where
        old : (j : ℕ) → j < n → row_on ia ib t place j ≡ row_on ia ib s place j
        old j d = kept_row w.kept (place + 14 * j) (get_or ia j 0) (get_or ib j 0) (λ i x y. omega arith)

        there : (i : ℕ) → place + 14 * (n + i) ≡ place + 14 * n + 14 * i
        there i = omega arith

        new : (i : ℕ) → i < m
            → row_on ia ib t place (n + i) ≡ row_at t (place + 14 * n + 14 * i) (joint_in joints k).body_a (joint_in joints k).body_b
        new i d =
            let c : m ≡ row_count (joint_in joints k).kind = w.count m q in
            let x : get_or ia (n + i) 0 ≡ (joint_in joints k).body_a = ap (λ (z : ℕ). get_or ia (z + i) 0) p ∙ S.a-is k i h (omega arith) in
            let y : get_or ib (n + i) 0 ≡ (joint_in joints k).body_b = ap (λ (z : ℕ). get_or ib (z + i) 0) p ∙ S.b-is k i h (omega arith) in
            λ j. row_at t (there i j) (x j) (y j)

    stops : {f : CollisionError} → stop f ≡ joint_rows joints (bodies_at moved s₀ body-count) k
        → Does (Out place ROW_TABLE) s₀ t (stop f) (write_rows joints count (bodies_at moved s₀ body-count))
    unfolding write_rows
    stops e = record { kept = kept; is = loop-stop writing [] count h so.is (then-stop (λ local. go (rows_on ia ib s place n ++ local)) e) }

    pub wrote-stops : {f : CollisionError} → r ≡ Err f
        → Does (Out place ROW_TABLE) s₀ t (stop f) (write_rows joints count (bodies_at moved s₀ body-count))
    wrote-stops q = stops (case q)

  pub wrote-ends : (k n : ℕ) (s : List Float) → Wrote k n s → n ≡ rows_before joints k → k ≤ count → count ≤ k
      → Does (Out place ROW_TABLE) s₀ s (go (rows_on ia ib s place (rows_before joints count))) (write_rows joints count (bodies_at moved s₀ body-count))
  unfolding write_rows
  wrote-ends k n s so p a b =
      let same : k ≡ count = omega arith in
      record {
        kept =
            so.kept;
        is = ap (λ (m : ℕ). go (rows_on ia ib s place m)) (sym (p ∙ ap (rows_before joints) same)) ∙ loop-end writing [] a b so.is;
      }
