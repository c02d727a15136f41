-- The path's sums, and its factor's forward and backward solves, as the code leaves them: what Path defines. By the laws of loops and views.
use Prim.Native.Nat.{ℕ, zero, suc, ◌+◌, ◌*◌, ◌-◌, ◌≤◌, ◌<◌, min}
use mathlib.Core.Path.{◌≡◌, refl, sym, ◌∙◌, ap, subst}
use mathlib.Core.List.{List, [], ◌∷◌, ◌++◌}
use native.Mathlib.Omega.{arith}
use lib.ListN.{length, get_or, set}
use lib.Ieee.{Float}
use Rattle.arith.specs.Real.{◌⊕◌, ◌⊖◌, ◌⊗◌, ◌⊘◌}
use Rattle.arith.specs.Flow.{turns, tab}
use Rattle.arith.specs.FlowLaws.{turns-none, turns_more, turns-end}
use Rattle.rows.specs.View.{at, Out, Kept}
use Rattle.rows.specs.Region.{kept_refl, kept_then, kept_set}
use Rattle.solves.specs.declared.path.Line.{Line}
use Rattle.solves.specs.Region.{vec_at, Does}
use Rattle.solves.specs.RegionLaws.{vec-at, vec_in, kept-vec, vec-set, vec-more}
use Rattle.solves.specs.Path.{index, band_cell, less_products, reduced, forward_sum, forward_turn, forward, backward_sum, Back, backward_turn, backward}
use Rattle.solves.specs.View.{list_of_first, band_at, Along, SOLUTION, RESIDUAL, PATH_BAND, PATH_SCALE, PATH_RHS, END, Beside}
use Rattle.solves.specs.PathView.{line_at, InLine, LinesIn, row_line, column_line, side_line}
use Rattle.solves.proofs.BlockLaws.{list_at}
use Rattle.solves.proofs.FactorLaws.{cell_at, cell-first}

-- ---- the sums
-- two sums of the same products
products-same : (x y v w : ℕ → Float) (terms : ℕ) (value : Float) → ((t : ℕ) → t < terms → x t ≡ v t) → ((t : ℕ) → t < terms → y t ≡ w t)
    → less_products x y terms value ≡ less_products v w terms value
unfolding turns
products-same x y v w zero value p q = refl
products-same x y v w (suc k) value p q =
    let less : less_products x y k value ≡ less_products v w k value = products-same x y v w k value (λ t h. p t (omega arith)) (λ t h. q t (omega arith)) in
    λ j. less j ⊖ p k (omega arith) j ⊗ q k (omega arith) j

-- a sum along the lines a and b, which are p and q
sum-along : (s : List Float) (start : Float) {a b p q : Line} {m k : ℕ} {r : Float} {x y : ℕ → Float} → r ≡ less_products (line_at s a) (line_at s b) m start
    → a ≡ p → b ≡ q → m ≡ k → ((t : ℕ) → t < k → line_at s p t ≡ x t) → ((t : ℕ) → t < k → line_at s q t ≡ y t) → r ≡ less_products x y k start
sum-along s start {a} {b} {p} {q} {m} {k} {x} {y} e ea eb em px qy =
    e ∙ (λ j. less_products (line_at s (ea j)) (line_at s (eb j)) (em j) start) ∙ products-same (line_at s p) (line_at s q) x y k start px qy

-- what stands on a line
row_is : (s : List Float) (n i from t : ℕ) → i < n → from + t ≤ i → i ≤ from + 11 → line_at s (row_line i from) t ≡ band_cell (band_at s n) i (i - (from + t))
row_is s n i from t h l m =
    let place : PATH_BAND + 12 * i + (i - from) + 0 * t - 1 * t ≡ PATH_BAND + 12 * i + (i - (from + t)) = omega arith in
    ap (at s) place ∙ cell_at s n i (i - (from + t)) h (omega arith)

column-is : (s : List Float) (n i t : ℕ) → i + 1 + t < n → t < 11 → line_at s (column_line i (i + 1)) t ≡ band_cell (band_at s n) (i + 1 + t) (i + 1 + t - i)
column-is s n i t h l =
    let place : PATH_BAND + 12 * (i + 1) + (i + 1 - i) + 13 * t - 0 * t ≡ PATH_BAND + 12 * (i + 1 + t) + (i + 1 + t - i) = omega arith in
    ap (at s) place ∙ cell_at s n (i + 1 + t) (i + 1 + t - i) h (omega arith)

side-is : (s : List Float) (n from t : ℕ) → from + t < n → line_at s (side_line from) t ≡ at (vec_at s PATH_RHS n) (from + t)
side-is s n from t h =
    let place : PATH_RHS + from + 1 * t - 0 * t ≡ PATH_RHS + (from + t) = omega arith in
    ap (at s) place ∙ vec-at s PATH_RHS n (from + t) h

-- the lines lie in the scratch
module _ {line : Line} (t : ℕ) where
  row_lies : (i from : ℕ) → line ≡ row_line i from → i < 96 → t < i - from → InLine line t
  row_lies i from e h l = subst (λ (x : Line). InLine x t) (sym e) (omega arith, omega arith)

  column-lies : (i : ℕ) → line ≡ column_line i (i + 1) → i + 1 + t < 96 → InLine line t
  column-lies i e l = subst (λ (x : Line). InLine x t) (sym e) (omega arith, omega arith)

  side-lies : (from : ℕ) → line ≡ side_line from → from + t < 96 → InLine line t
  side-lies from e l = subst (λ (x : Line). InLine x t) (sym e) (omega arith, omega arith)

module _ {s : List Float} (i : ℕ) {a b : Line} (whole : END ≤ length s) (few : i < 96) where
  pub reduced-lie : (j from : ℕ) → j ≤ i → from ≡ i - 11 → a ≡ row_line i from → b ≡ row_line j from → LinesIn s a b (j - from)
  reduced-lie j from h ef ea eb = record {
    whole = whole;
    first = λ t l. row_lies t i from ea (omega arith) (omega arith);
    second = λ t l. row_lies t j from eb (omega arith) l;
  }

  pub forward-lie : (from : ℕ) → from ≡ i - 11 → a ≡ row_line i from → b ≡ side_line from → LinesIn s a b (i - from)
  forward-lie from ef ea eb = record {
    whole = whole;
    first = λ t l. row_lies t i from ea (omega arith) l;
    second = λ t l. side-lies t from eb (omega arith);
  }

module _ {s : List Float} (n i : ℕ) {a b : Line} (whole : END ≤ length s) (most : n ≤ 96) (hi : i < n) where
  pub backward-lie : (end : ℕ) → end ≡ min n (i + 12) → a ≡ column_line i (i + 1) → b ≡ side_line (i + 1) → LinesIn s a b (end - (i + 1))
  backward-lie end ee ea eb = record {
    whole = whole;
    first = λ t l. column-lies t i ea (omega arith);
    second = λ t l. side-lies t (i + 1) eb (omega arith);
  }

-- the three sums
module _ (s : List Float) (n i : ℕ) (hi : i < n) (start : Float) {a b : Line} {r : Float} where
  pub reduced-is : {from : ℕ} (j : ℕ) → j ≤ i → i ≤ j + 11 → from ≡ i - 11 → a ≡ row_line i from → b ≡ row_line j from
      → r ≡ less_products (line_at s a) (line_at s b) (j - from) start → r ≡ reduced (band_at s n) i j start
  unfolding reduced
  reduced-is j h l ef ea eb e = sum-along s start e (ea ∙ ap (row_line i) ef) (eb ∙ ap (row_line j) ef) (ap (λ (m : ℕ). j - m) ef)
      (λ t q. row_is s n i (i - 11) t hi (omega arith) (omega arith)) (λ t q. row_is s n j (i - 11) t (omega arith) (omega arith) (omega arith))

  pub forward-is : {from : ℕ} → from ≡ i - 11 → a ≡ row_line i from → b ≡ side_line from
      → r ≡ less_products (line_at s a) (line_at s b) (i - from) start → r ≡ forward_sum (band_at s n) (vec_at s PATH_RHS i) i start
  unfolding forward_sum
  forward-is ef ea eb e = sum-along s start e (ea ∙ ap (row_line i) ef) (eb ∙ ap side_line ef) (ap (λ (m : ℕ). i - m) ef)
      (λ t q. row_is s n i (i - 11) t hi (omega arith) (omega arith)) (λ t q. side-is s i (i - 11) t (omega arith))

  pub backward-is : {end : ℕ} → end ≡ min n (i + 12) → a ≡ column_line i (i + 1) → b ≡ side_line (i + 1)
      → r ≡ less_products (line_at s a) (line_at s b) (end - (i + 1)) start → r ≡ backward_sum n (band_at s n) (vec_at s PATH_RHS n) i start
  unfolding backward_sum
  backward-is ee ea eb e = sum-along s start e ea eb (ap (λ (m : ℕ). m - (i + 1)) ee)
      (λ t q. column-is s n i t (omega arith) (omega arith)) (λ t q. side-is s n (i + 1) t (omega arith))

-- ---- a sweep after k of n rows: what is defined stands there
pub record Swept {A : Type 0} (P : ℕ → Type 0) (n : ℕ) (order : List ℕ) (s₀ : List Float) (k : ℕ) (s : List Float) (x defined : A) : Type 0 where
  pub most : n ≤ 96
  pub along : Along order n
  pub whole : END ≤ length s
  pub turned : k ≤ n
  pub does : Does P s₀ s x defined

swept-more : {A : Type 0} {P : ℕ → Type 0} {n k k' : ℕ} {order : List ℕ} {s₀ s t : List Float} {x y d e : A} → Swept P n order s₀ k s x d → k' ≤ n
    → Does P s₀ t y e → Swept P n order s₀ k' t y e
swept-more w h z = record { most = w.most; along = w.along; whole = omega arith; turned = h; does = z }

-- ---- forward
module _ (n : ℕ) (order : List ℕ) (s₀ : List Float) where
  abbrev O : List ℕ
  O = list_of_first order n

  abbrev Sc : List Float
  Sc = vec_at s₀ PATH_SCALE n

  abbrev Bd : List Float
  Bd = band_at s₀ n

  abbrev Re : List Float
  Re = vec_at s₀ RESIDUAL n

  abbrev pub ForwardSo : ℕ → List Float → Type 0
  ForwardSo i s = Swept (Beside PATH_RHS) n order s₀ i s (vec_at s PATH_RHS i) (turns (forward_turn n O Sc Bd Re) i [])

  pub forwards-none : END ≤ length s₀ → n ≤ 96 → Along order n → ForwardSo 0 s₀
  unfolding tab
  forwards-none w m a = record {
    most = m;
    along = a;
    whole = w;
    turned = omega arith;
    does = record { kept = kept_refl _ s₀; is = turns-none (forward_turn n O Sc Bd Re) [] };
  }

  module _ {i : ℕ} {s : List Float} (inv : ForwardSo i s) (h : i < n) {value : Float}
      (ev : value ≡ forward_sum (band_at s n) (vec_at s PATH_RHS i) i (at s (RESIDUAL + get_or order i 0) ⊘ at s (PATH_SCALE + i))) where
    band-is : band_at s n ≡ Bd
    band-is = kept-vec inv.does.kept PATH_BAND (12 * n) (λ j x y. omega arith)

    start_is : at s (RESIDUAL + get_or order i 0) ≡ at Re (index O i)
    start_is = vec_in inv.does.kept RESIDUAL n (get_or order i 0) (λ j x y. omega arith) (inv.along i h) refl ∙ ap (at Re) (list_at order n i h)

    scale-is : at s (PATH_SCALE + i) ≡ at Sc i
    scale-is = vec_in inv.does.kept PATH_SCALE n i (λ j x y. omega arith) h refl

    abbrev new : Float
    new = value ⊘ at s (PATH_BAND + 12 * i)

    new_is : new ≡ forward_sum Bd (vec_at s PATH_RHS i) i (at Re (index O i) ⊘ at Sc i) ⊘ band_cell Bd i 0
    new_is = (λ j. (ev ∙ λ k. forward_sum (band-is k) (vec_at s PATH_RHS i) i (start_is k ⊘ scale-is k)) j
        ⊘ (cell-first s n i h ∙ λ k. band_cell (band-is k) i 0) j)

    pub forwards-more : ForwardSo (i + 1) (set s (PATH_RHS + i) new)
    forwards-more = swept-more inv (omega arith) record {
      kept = kept_then inv.does.kept (kept_set s (PATH_RHS + i) new) (λ j x. omega arith);
      is = vec-more s PATH_RHS i new (omega arith) ∙ ap (λ (x : Float). vec_at s PATH_RHS i ++ (x ∷ [])) new_is
          ∙ turns_more (forward_turn n O Sc Bd Re) i [] inv.does.is;
    }

  pub forwards-end : {i : ℕ} {s : List Float} → ForwardSo i s → n ≤ i → Does (Beside PATH_RHS) s₀ s (vec_at s PATH_RHS n) (forward n O Sc Bd Re)
  unfolding forward
  forwards-end {i} {s} inv b =
      let same : i ≡ n = omega arith in
      record { kept = inv.does.kept; is = ap (vec_at s PATH_RHS) (sym same) ∙ turns-end (forward_turn n O Sc Bd Re) [] inv.turned b inv.does.is }

-- ---- backward
abbrev pub Backs : ℕ → Type 0
Backs i = (Beside PATH_RHS i) × (Beside SOLUTION i)

abbrev pub back_at : List Float → ℕ → Back
back_at s n = record { y = vec_at s PATH_RHS n; solution = vec_at s SOLUTION n }

backs-rhs : (i k : ℕ) → k < 96 → Beside PATH_RHS i → Out (PATH_RHS + k) 1 i
backs-rhs i k h x = omega arith

backs-solution : (i k : ℕ) → k < 96 → Beside SOLUTION i → Out (SOLUTION + k) 1 i
backs-solution i k h x = omega arith

module _ (n : ℕ) (order : List ℕ) (s₀ : List Float) where
  abbrev O₁ : List ℕ
  O₁ = list_of_first order n

  abbrev Sc₁ : List Float
  Sc₁ = vec_at s₀ PATH_SCALE n

  abbrev Bd₁ : List Float
  Bd₁ = band_at s₀ n

  abbrev Turned : ℕ → Back → Back
  Turned = backward_turn n O₁ Sc₁ Bd₁

  abbrev pub BackwardSo : ℕ → List Float → Type 0
  BackwardSo left s = Swept Backs n order s₀ (n - left) s (back_at s n)
      (turns (backward_turn n (list_of_first order n) (vec_at s₀ PATH_SCALE n) (band_at s₀ n)) (n - left) (back_at s₀ n))

  pub backwards-none : END ≤ length s₀ → n ≤ 96 → Along order n → BackwardSo n s₀
  backwards-none w m a = record {
    most = m;
    along = a;
    whole = w;
    turned = omega arith;
    does = record {
      kept = kept_refl _ s₀;
      is = turns-none Turned (back_at s₀ n) ∙ ap (λ (k : ℕ). turns Turned k (back_at s₀ n)) (omega arith);
    };
  }

  module _ {left : ℕ} {s : List Float} (inv : BackwardSo left s) (h : 0 < left) (few : left ≤ n) {sum : Float}
      (es : sum ≡ backward_sum n (band_at s n) (vec_at s PATH_RHS n) (left - 1) (at s (PATH_RHS + (left - 1)))) where
    abbrev i : ℕ
    i = left - 1

    i-there : i < n
    i-there = omega arith

    band₁ : band_at s n ≡ Bd₁
    band₁ = kept-vec inv.does.kept PATH_BAND (12 * n) (λ j x y. omega arith)

    abbrev value : Float
    value = sum ⊘ at s (PATH_BAND + 12 * i)

    value-is : value ≡ backward_sum n Bd₁ (vec_at s PATH_RHS n) i (at (vec_at s PATH_RHS n) i) ⊘ band_cell Bd₁ i 0
    value-is = λ j. (es ∙ λ x. backward_sum n (band₁ x) (vec_at s PATH_RHS n) i (vec-at s PATH_RHS n i i-there x)) j
        ⊘ (cell-first s n i i-there ∙ λ x. band_cell (band₁ x) i 0) j

    abbrev s₁ : List Float
    s₁ = set s (PATH_RHS + i) value

    abbrev m : ℕ
    m = get_or order i 0

    m-there : m < n
    m-there = inv.along i i-there

    k₁ : Kept (λ j. Out (PATH_RHS + i) 1 j) s s₁
    k₁ = kept_set s (PATH_RHS + i) value

    sol₁ : vec_at s₁ SOLUTION n ≡ vec_at s SOLUTION n
    sol₁ = kept-vec k₁ SOLUTION n (λ j x y. omega arith)

    abbrev moved : Float
    moved = at s₁ (SOLUTION + m) ⊕ value ⊘ at s₁ (PATH_SCALE + i)

    abbrev s₂ : List Float
    s₂ = set s₁ (SOLUTION + m) moved

    scale₁ : at s₁ (PATH_SCALE + i) ≡ at Sc₁ i
    scale₁ = k₁.same (PATH_SCALE + i) (omega arith) ∙ vec_in inv.does.kept PATH_SCALE n i (λ j x y. omega arith) i-there refl

    old-is : at s₁ (SOLUTION + m) ≡ at (vec_at s SOLUTION n) (index O₁ i)
    old-is = vec-at s₁ SOLUTION n m m-there ∙ λ j. at (sol₁ j) (list_at order n i i-there j)

    abbrev want : Float
    want = backward_sum n Bd₁ (vec_at s PATH_RHS n) i (at (vec_at s PATH_RHS n) i) ⊘ band_cell Bd₁ i 0

    y₂ : vec_at s₂ PATH_RHS n ≡ set (vec_at s PATH_RHS n) i want
    y₂ = kept-vec (kept_set s₁ (SOLUTION + m) moved) PATH_RHS n (λ j x y. omega (arith, m-there))
        ∙ vec-set s PATH_RHS n i value i-there (omega arith) ∙ ap (set (vec_at s PATH_RHS n) i) value-is

    solution₂ : vec_at s₂ SOLUTION n ≡ set (vec_at s SOLUTION n) (index O₁ i) (at (vec_at s SOLUTION n) (index O₁ i) ⊕ want ⊘ at Sc₁ i)
    solution₂ = vec-set s₁ SOLUTION n m moved m-there (omega (arith, k₁.size))
        ∙ λ j. set (sol₁ j) (list_at order n i i-there j) (old-is j ⊕ value-is j ⊘ scale₁ j)

    -- the turn at row i
    abbrev turn : ℕ → Back
    turn i =
        let value : Float = backward_sum n Bd₁ (vec_at s PATH_RHS n) i (at (vec_at s PATH_RHS n) i) ⊘ band_cell Bd₁ i 0 in
        record {
          y = set (vec_at s PATH_RHS n) i value;
          solution = set (vec_at s SOLUTION n) (index O₁ i) (at (vec_at s SOLUTION n) (index O₁ i) ⊕ value ⊘ at Sc₁ i);
        }

    turn-is : turn i ≡ Turned (n - left) (back_at s n)
    unfolding backward_turn
    turn-is = ap turn (omega arith)

    pub backwards-more : BackwardSo (left - 1) s₂
    backwards-more = swept-more inv (omega arith) record {
      kept = kept_then (kept_then inv.does.kept k₁ (λ j x. backs-rhs j i (omega arith) x.0)) (kept_set s₁ (SOLUTION + m) moved)
          (λ j x. backs-solution j m (omega (arith, m-there)) x.1);
      is = (λ j. record { y = y₂ j; solution = solution₂ j }) ∙ turn-is ∙ turns_more Turned (n - left) (back_at s₀ n) inv.does.is
          ∙ ap (λ (k : ℕ). turns Turned k (back_at s₀ n)) (omega arith);
    }

  pub backwards-end : {left : ℕ} {s : List Float} → BackwardSo left s → left ≤ 0
      → Does Backs s₀ s (vec_at s SOLUTION n) (backward n O₁ Sc₁ Bd₁ (vec_at s₀ PATH_RHS n) (vec_at s₀ SOLUTION n))
  unfolding backward
  backwards-end inv b = record {
    kept = inv.does.kept;
    is = ap (λ (x : Back). x.solution) (turns-end Turned (back_at s₀ n) inv.turned (omega arith) inv.does.is);
  }
