-- The conjugate gradients: the test of a residual, the diagonal, and a pass in its two halves; then what stands before the loop.
use Prim.Native.Nat.{ℕ, ◌+◌, ◌≤◌, ◌<◌, ◌^◌}
use mathlib.Core.Path.{◌≡◌, refl, sym, ◌∙◌, ap}
use mathlib.Core.Bool.{Bool, true, false, not, ◌||◌}
use mathlib.Core.List.{List, [], ◌∷◌, ◌++◌}
use native.Mathlib.Omega.{arith}
use lib.ListN.{length, set}
use lib.Ieee as Ieee
use lib.Ieee.{Float}
use Rattle.arith.specs.Real.{ratio, is_finite, ◌⊕◌, ◌⊗◌, ◌⊘◌}
use Rattle.arith.specs.Flow.{Turn, go, stop, loop, tab}
use Rattle.arith.specs.FlowLaws.{then-go, then-stop, loop-none, loop-more, loop-stop, loop-end}
use Rattle.arith.specs.Run.{ran, again, leave, fail, up_to}
use Rattle.arith.specs.RunLaws.{ticks, try-go, try-stop, leave-yes, leave-no}
use Rattle.rows.specs.declared.geometry.EqualityRow.{EqualityRow}
use Rattle.rows.specs.Fault.{CollisionError, NonConvergent, Result}
use Rattle.rows.specs.View.{at, Out, Kept}
use Rattle.rows.specs.Region.{tab-length, tab-ext, kept_refl, kept_then, kept_more, kept_set}
use Rattle.solves.specs.declared.places.MassResponse.{MassResponse}
use Rattle.solves.specs.View.{Table}
use Rattle.solves.specs.System.{System, Counting}
use Rattle.solves.specs.Region.{vec_at, Filled, Does}
use Rattle.solves.specs.RegionLaws.{vec-at, vec_in, kept-vec, vec-more, filled-vec, filled_more}
use Rattle.solves.specs.Solver.{row_in, mass_in, dot, operator, plus, minus, difference, within, tolerance_for, Search, diagonal_of, Prepared}
use Rattle.solves.specs.Solver.{prepare_row, prepare, Tested, true_residual, scaled_square, next_direction, advance}
use Rattle.solves.specs.Search.{gradient_most, settle, gradient_pass, gradients}
use Rattle.solves.specs.Answer.{tested_as}
use Rattle.solves.specs.View.{row_on, rows_on, mass_at, masses_at, system_on, search_at, prepared_at, Rows, Beside, Operating, Passing, Preparing, Testing}
use Rattle.solves.specs.View.{Work}
use Rattle.solves.specs.View.{VECTOR, ROWS_MOST, MASSES, RHS, SOLUTION, RESIDUAL, DIRECTION, PRODUCT, DIAGONAL}
use Rattle.solves.specs.DoesLaws.{goes_on, returns-if, does-stop}
use Rattle.solves.specs.ViewLaws.{row-in, mass-in, passing-vector, passing-moves, passing-testing}
use Rattle.solves.proofs.OperatorLaws.{on-a, on-b}
use Rattle.solves.proofs.VectorLaws.{plus-neg}
use Rattle.solves.proofs.SearchLaws.{passing-system, work-system}

-- prepare
either : {a : Bool} (b : Bool) → a ≡ true → a || b ≡ true
either b h = ap (λ (x : Bool). x || b) h

other : {a : Bool} (b : Bool) → a ≡ false → a || b ≡ b
other b h = ap (λ (x : Bool). x || b) h

-- places within places
one_out : (o k i : ℕ) → k < VECTOR → Beside o i → Out (o + k) 1 i
one_out o k i h x = omega arith

module _ {z : List Float} {ia ib : List ℕ} {place n body-count : ℕ} (pre : Rows z ia ib place n body-count) (s₀ : List Float) where
  abbrev R : List EqualityRow
  R = rows_on ia ib s₀ place n

  abbrev M : List MassResponse
  M = masses_at s₀ MASSES body-count

  abbrev S : System
  S = record { rows = R; masses = M }

  abbrev E : List Float
  E = vec_at s₀ RESIDUAL n

  abbrev nothing : Prepared
  nothing = record { diagonal = []; direction = []; rho = ratio 0 1 }

  abbrev pub PreparedSo : ℕ → List Float → Float → Type 0
  PreparedSo k s rho = Does Preparing s₀ s (go (prepared_at s k rho)) (loop k (prepare_row S E) nothing)

  pub prepared-none : {zero : Float} → zero ≡ ratio 0 1 → PreparedSo 0 s₀ zero
  unfolding tab
  prepared-none e =
      record { kept = kept_refl _ s₀; is = (λ j. go (record { diagonal = []; direction = []; rho = e j })) ∙ loop-none (prepare_row S E) nothing }

  module _ {k : ℕ} {s : List Float} {rho : Float} (inv : PreparedSo k s rho) (h : k < n) (l : length s ≡ length z) {row : EqualityRow}
      {ma mb : MassResponse} {d zero : Float} {f : Bool}
      (er : row ≡ row_on ia ib s place k) (ea : ma ≡ mass_at s MASSES row.a) (eb : mb ≡ mass_at s MASSES row.b) (ed : d ≡ diagonal_of row ma mb)
      (ef : f ≡ is_finite d) (ez : zero ≡ ratio 0 1) where
    d-is : d ≡ diagonal_of (row_in R k) (mass_in M (row_in R k).a) (mass_in M (row_in R k).b)
    d-is =
        let x : row ≡ row_in R k = row-in inv.kept ia ib place n k (λ i x y. omega arith) h er in
        let y : ma ≡ mass_in M row.a = mass-in inv.kept MASSES body-count row.a (λ i x y. omega arith) (on-a pre h s er) ea in
        let w : mb ≡ mass_in M row.b = mass-in inv.kept MASSES body-count row.b (λ i x y. omega arith) (on-b pre h s er) eb in
        cc

    r-is : at s (RESIDUAL + k) ≡ at E k
    r-is = vec_in inv.kept RESIDUAL n k (λ i x y. omega arith) h refl

    abbrev D : Float
    D = diagonal_of (row_in R k) (mass_in M (row_in R k).a) (mass_in M (row_in R k).b)

    wild : f ≡ false → not (is_finite D) || Ieee.le D (ratio 0 1) ≡ true
    wild q = either _ (ap not (sym (ef ∙ ap is_finite d-is) ∙ q))

    small : (b : Bool) → f ≡ true → Ieee.le d zero ≡ b → not (is_finite D) || Ieee.le D (ratio 0 1) ≡ b
    small b q w = other _ (ap not (sym (ef ∙ ap is_finite d-is) ∙ q)) ∙ sym (λ j. Ieee.le (d-is j) (ez j)) ∙ w

    refused : not (is_finite D) || Ieee.le D (ratio 0 1) ≡ true → Does Preparing s₀ s (stop NonConvergent) (loop n (prepare_row S E) nothing)
    unfolding prepare_row
    refused q = record { kept = inv.kept; is = loop-stop (prepare_row S E) nothing n h inv.is (then-stop _ (returns-if _ q)) }

    whole : Does Preparing s₀ s (stop NonConvergent) (loop n (prepare_row S E) nothing) → Does Preparing s₀ s (stop NonConvergent) (prepare S E)
    unfolding prepare
    whole d = record { kept = d.kept; is = d.is ∙ ap (λ (m : ℕ). loop m (prepare_row S E) nothing) (sym (tab-length n (row_on ia ib s₀ place))) }

    pub prepared-wild : f ≡ false → Does Preparing s₀ s (stop NonConvergent) (prepare S E)
    prepared-wild q = whole (refused (wild q))

    pub prepared-small : f ≡ true → Ieee.le d zero ≡ true → Does Preparing s₀ s (stop NonConvergent) (prepare S E)
    prepared-small q w = whole (refused (small true q w))

    abbrev x : Float
    x = at s (RESIDUAL + k) ⊘ d

    abbrev t : List Float
    t = set (set s (DIAGONAL + k) d) (DIRECTION + k) x

    x-is : x ≡ at E k ⊘ D
    x-is = λ j. r-is j ⊘ d-is j

    diagonal-more : vec_at t DIAGONAL (k + 1) ≡ vec_at s DIAGONAL k ++ (D ∷ [])
    diagonal-more =
        kept-vec (kept_set (set s (DIAGONAL + k) d) (DIRECTION + k) x) DIAGONAL (k + 1) (λ i a b. omega (arith, pre.most))
        ∙ vec-more s DIAGONAL k d (omega (arith, pre.whole, pre.most))
        ∙ ap (λ (y : Float). vec_at s DIAGONAL k ++ (y ∷ [])) d-is

    direction-more : vec_at t DIRECTION (k + 1) ≡ vec_at s DIRECTION k ++ (at E k ⊘ D ∷ [])
    direction-more = vec-more (set s (DIAGONAL + k) d) DIRECTION k x (omega (arith, (kept_set s (DIAGONAL + k) d).size, pre.whole, pre.most))
        ∙ ap (λ (y : List Float). y ++ (x ∷ [])) (kept-vec (kept_set s (DIAGONAL + k) d) DIRECTION k (λ i a b. omega (arith, pre.most)))
        ∙ ap (λ (y : Float). vec_at s DIRECTION k ++ (y ∷ [])) x-is

    pub prepared_again : f ≡ true → Ieee.le d zero ≡ false → PreparedSo (k + 1) t (rho ⊕ at s (RESIDUAL + k) ⊗ x)
    unfolding prepare_row
    prepared_again q w = record {
      kept =
          kept_then (kept_then inv.kept (kept_set s (DIAGONAL + k) d) (λ i y. one_out DIAGONAL k i (omega (arith, pre.most)) y.0))
          (kept_set (set s (DIAGONAL + k) d) (DIRECTION + k) x) (λ i y. one_out DIRECTION k i (omega (arith, pre.most)) y.1);
      is = loop-more (prepare_row S E) nothing inv.is
          ((λ j. go (record { diagonal = diagonal-more j; direction = direction-more j; rho = rho ⊕ r-is j ⊗ x-is j }))
          ∙ then-go _ (goes_on _ (small false q w)));
    }

  pub prepared-ends : {k : ℕ} {s : List Float} {rho : Float} → PreparedSo k s rho → k ≤ n → n ≤ k
      → Does Preparing s₀ s (go (prepared_at s n rho)) (prepare S E)
  unfolding prepare
  prepared-ends {k} {s} {rho} inv a b =
      let same : k ≡ n = omega arith in
      record {
        kept = inv.kept;
        is =
            ap (λ (m : ℕ). go (prepared_at s m rho)) (sym same) ∙ loop-end (prepare_row S E) nothing a b inv.is
            ∙ ap (λ (m : ℕ). loop m (prepare_row S E) nothing) (sym (tab-length n (row_on ia ib s₀ place)));
      }

-- next_direction
module _ (s : List Float) (beta : Float) where
  abbrev pub direct : ℕ → Float
  direct k = at s (RESIDUAL + k) ⊘ at s (DIAGONAL + k) ⊕ beta ⊗ at s (DIRECTION + k)

  pub direct-more : {k : ℕ} {t : List Float} → Filled DIRECTION k direct s t → k < VECTOR → DIRECTION + k < length t
      → Filled DIRECTION (k + 1) direct s (set t (DIRECTION + k) (at t (RESIDUAL + k) ⊘ at t (DIAGONAL + k) ⊕ beta ⊗ at t (DIRECTION + k)))
  direct-more {k} {t} f h l =
      let x : at t (RESIDUAL + k) ≡ at s (RESIDUAL + k) = f.kept.same (RESIDUAL + k) (omega arith) in
      let y : at t (DIAGONAL + k) ≡ at s (DIAGONAL + k) = f.kept.same (DIAGONAL + k) (omega arith) in
      let w : at t (DIRECTION + k) ≡ at s (DIRECTION + k) = f.kept.same (DIRECTION + k) (omega arith) in
      filled_more f l (cc)

  pub direct_is : {k n : ℕ} {t : List Float} → Filled DIRECTION k direct s t → k ≤ n → n ≤ k → n ≤ ROWS_MOST
      → Does (Beside DIRECTION) s t (vec_at t DIRECTION n) (next_direction (vec_at s RESIDUAL n) (vec_at s DIAGONAL n) beta (vec_at s DIRECTION n))
  unfolding next_direction
  direct_is {k} {n} {t} f h l m =
      let same : k ≡ n = omega arith in
      record {
        kept = kept_more f.kept (λ i x. omega arith);
        is = ap (vec_at t DIRECTION) (sym same) ∙ filled-vec f ∙ tab-ext k (λ j q. three j (omega arith))
            ∙ ap (λ (m : ℕ). tab m (λ i. at (vec_at s RESIDUAL n) i ⊘ at (vec_at s DIAGONAL n) i ⊕ beta ⊗ at (vec_at s DIRECTION n) i))
            (same ∙ sym (tab-length n (λ j. at s (RESIDUAL + j))));
      }
    where
      three : (j : ℕ) → j < n → direct j ≡ at (vec_at s RESIDUAL n) j ⊘ at (vec_at s DIAGONAL n) j ⊕ beta ⊗ at (vec_at s DIRECTION n) j
      three j q = cc (vec-at s RESIDUAL n j q, vec-at s DIAGONAL n j q, vec-at s DIRECTION n j q)

-- true_residual
module _ {s : List Float} {ia ib : List ℕ} (table : Table) (pre : Rows s ia ib table.place table.rows table.bodies) (tolerance : Float) where
  abbrev n₁ : ℕ
  n₁ = table.rows

  abbrev M₁ : System
  M₁ = system_on ia ib s table

  abbrev True : Result Tested
  True = true_residual M₁ (vec_at s RHS n₁) tolerance (vec_at s SOLUTION n₁) (vec_at s RESIDUAL n₁)

  pub true-beyond : go false ≡ within (vec_at s RESIDUAL n₁) tolerance → Does Testing s s (go (record { residual = vec_at s RESIDUAL n₁; solved = false })) True
  unfolding true_residual
  true-beyond e = record { kept = kept_refl _ s; is = then-go _ e }

  pub true-wild : {f : CollisionError} → stop f ≡ within (vec_at s RESIDUAL n₁) tolerance → Does Testing s s (stop f) True
  unfolding true_residual
  true-wild e = record { kept = kept_refl _ s; is = then-stop _ e }

  module _ (e : go true ≡ within (vec_at s RESIDUAL n₁) tolerance) {s₁ : List Float} where
    pub true-unmoved : {f : CollisionError} → Does (Operating PRODUCT) s s₁ (stop f) (operator M₁ (vec_at s SOLUTION n₁)) → Does Testing s s₁ (stop f) True
    unfolding true_residual
    true-unmoved d = record { kept = kept_more d.kept (λ i x. (x.0, x.1)); is = then-stop _ d.is ∙ then-go _ e }

    module _ (d₁ : Does (Operating PRODUCT) s s₁ (go (vec_at s₁ PRODUCT n₁)) (operator M₁ (vec_at s SOLUTION n₁))) {s₂ : List Float}
        (d₂ : Does (Beside RESIDUAL) s₁ s₂ (vec_at s₂ RESIDUAL n₁) (difference (vec_at s₁ RHS n₁) (vec_at s₁ PRODUCT n₁))) where
      again-is : vec_at s₂ RESIDUAL n₁ ≡ difference (vec_at s RHS n₁) (vec_at s₁ PRODUCT n₁)
      again-is = d₂.is ∙ ap (λ (l : List Float). difference l (vec_at s₁ PRODUCT n₁)) (kept-vec d₁.kept RHS n₁ (λ i x y. omega (arith, pre.most)))

      tested-is : (r : Result Bool) → r ≡ within (difference (vec_at s RHS n₁) (vec_at s₁ PRODUCT n₁)) tolerance → tested_as r (vec_at s₂ RESIDUAL n₁) ≡ True
      unfolding true_residual
      tested-is (go b) f = (λ j. go (record { residual = again-is j; solved = b })) ∙ then-go _ f ∙ then-go _ d₁.is ∙ then-go _ e
      tested-is (stop fault) f = then-stop _ f ∙ then-go _ d₁.is ∙ then-go _ e

      pub true-again : (r : Result Bool) → r ≡ within (vec_at s₂ RESIDUAL n₁) tolerance → Does Testing s s₂ (tested_as r (vec_at s₂ RESIDUAL n₁)) True
      true-again r f = record {
        kept = kept_then (kept_more d₁.kept (λ i x. (x.0, x.1))) d₂.kept (λ i x. x.2);
        is = tested-is r (f ∙ ap (λ (l : List Float). within l tolerance) again-is);
      }

-- advance
module _ {s : List Float} {ia ib : List ℕ} (table : Table) (pre : Rows s ia ib table.place table.rows table.bodies) (rho : Float) where
  abbrev n₂ : ℕ
  n₂ = table.rows

  abbrev M₂ : System
  M₂ = system_on ia ib s table

  abbrev Advanced : Result Search
  Advanced = advance M₂ (search_at s n₂ rho)

  pub advance-unmoved : {s₁ : List Float} {f : CollisionError} → Does (Operating PRODUCT) s s₁ (stop f) (operator M₂ (vec_at s DIRECTION n₂))
      → Does Passing s s₁ (stop f) Advanced
  unfolding advance
  advance-unmoved d = does-stop _ (passing-moves PRODUCT (omega arith) (omega arith)) d

  module _ {s₁ : List Float} (d₁ : Does (Operating PRODUCT) s s₁ (go (vec_at s₁ PRODUCT n₂)) (operator M₂ (vec_at s DIRECTION n₂))) where
    k₁ : Kept Passing s s₁
    k₁ = kept_more d₁.kept (passing-moves PRODUCT (omega arith) (omega arith))

    curve : dot (vec_at s₁ DIRECTION n₂) (vec_at s₁ PRODUCT n₂) ≡ dot (vec_at s DIRECTION n₂) (vec_at s₁ PRODUCT n₂)
    curve = ap (λ (l : List Float). dot l (vec_at s₁ PRODUCT n₂)) (kept-vec d₁.kept DIRECTION n₂ (λ i x y. omega (arith, pre.most)))

    pub advance-unmeasured : {f : CollisionError} → stop f ≡ dot (vec_at s₁ DIRECTION n₂) (vec_at s₁ PRODUCT n₂) → Does Passing s s₁ (stop f) Advanced
    unfolding advance
    advance-unmeasured e = record { kept = k₁; is = then-stop _ (e ∙ curve) ∙ then-go _ d₁.is }

    module _ {y zero : Float} (ez : zero ≡ ratio 0 1) (e₁ : go y ≡ dot (vec_at s₁ DIRECTION n₂) (vec_at s₁ PRODUCT n₂)) where
      flat-is : Ieee.le y zero ≡ Ieee.le y (ratio 0 1)
      flat-is = ap (Ieee.le y) ez

      pub advance-flat : Ieee.le y zero ≡ true → Does Passing s s₁ (stop NonConvergent) Advanced
      unfolding advance
      advance-flat g = record { kept = k₁; is = then-stop _ (returns-if _ (either _ (sym flat-is ∙ g))) ∙ then-go _ (e₁ ∙ curve) ∙ then-go _ d₁.is }

      module _ (h₁ : Ieee.le y zero ≡ false) {f : Bool} (ef : f ≡ is_finite rho) where
        pub advance-wild : f ≡ false → Does Passing s s₁ (stop NonConvergent) Advanced
        unfolding advance
        advance-wild g = record {
          kept = k₁;
          is = then-stop _ (returns-if _ (other _ (sym flat-is ∙ h₁) ∙ ap not (sym ef ∙ g))) ∙ then-go _ (e₁ ∙ curve) ∙ then-go _ d₁.is;
        }

        module _ (h₂ : f ≡ true) {s₂ s₃ : List Float}
            (d₂ : Does (Beside SOLUTION) s₁ s₂ (vec_at s₂ SOLUTION n₂) (plus (vec_at s₁ SOLUTION n₂) (rho ⊘ y) (vec_at s₁ DIRECTION n₂)))
            (d₃ : Does (Beside RESIDUAL) s₂ s₃ (vec_at s₃ RESIDUAL n₂) (plus (vec_at s₂ RESIDUAL n₂) (Ieee.neg (rho ⊘ y)) (vec_at s₂ PRODUCT n₂))) where
          sol₃ : vec_at s₃ SOLUTION n₂ ≡ plus (vec_at s SOLUTION n₂) (rho ⊘ y) (vec_at s DIRECTION n₂)
          sol₃ =
              let a = kept-vec d₁.kept SOLUTION n₂ (λ i x y. omega (arith, pre.most)) in
              let b = kept-vec d₁.kept DIRECTION n₂ (λ i x y. omega (arith, pre.most)) in
              let c = kept-vec d₃.kept SOLUTION n₂ (λ i x y. omega (arith, pre.most)) in
              let e = d₂.is in
              cc

          res₃ : vec_at s₃ RESIDUAL n₂ ≡ minus (vec_at s RESIDUAL n₂) (rho ⊘ y) (vec_at s₁ PRODUCT n₂)
          res₃ =
              let a = kept-vec d₁.kept RESIDUAL n₂ (λ i x y. omega (arith, pre.most)) in
              let b = kept-vec d₂.kept RESIDUAL n₂ (λ i x y. omega (arith, pre.most)) in
              let c = kept-vec d₂.kept PRODUCT n₂ (λ i x y. omega (arith, pre.most)) in
              let e = d₃.is ∙ plus-neg _ _ _ in
              cc

          dir₃ : vec_at s₃ DIRECTION n₂ ≡ vec_at s DIRECTION n₂
          dir₃ = kept-vec d₃.kept DIRECTION n₂ (λ i x y. omega (arith, pre.most)) ∙ kept-vec d₂.kept DIRECTION n₂ (λ i x y. omega (arith, pre.most))
              ∙ kept-vec d₁.kept DIRECTION n₂ (λ i x y. omega (arith, pre.most))

          pub advance-done : Does Passing s s₃ (go (search_at s₃ n₂ rho)) Advanced
          unfolding advance
          advance-done = record {
            kept = kept_then (kept_then k₁ d₂.kept (passing-vector SOLUTION (omega arith) (omega arith)))
                d₃.kept (passing-vector RESIDUAL (omega arith) (omega arith));
            is = (λ j. go (record { solution = sol₃ j; residual = res₃ j; direction = dir₃ j; rho = rho }))
                ∙ then-go _ (goes_on _ (other _ (sym flat-is ∙ h₁) ∙ ap not (sym ef ∙ h₂))) ∙ then-go _ (e₁ ∙ curve) ∙ then-go _ d₁.is;
          }

-- settle
module _ {s : List Float} {ia ib : List ℕ} (table : Table) (pre : Rows s ia ib table.place table.rows table.bodies) (tolerance rho : Float) where
  abbrev n₃ : ℕ
  n₃ = table.rows

  abbrev Settled : Counting (Turn Search (List Float))
  Settled = settle (system_on ia ib s table) (vec_at s RHS n₃) (vec_at s DIAGONAL n₃) tolerance (search_at s n₃ rho)

  abbrev Truth : Result Tested
  Truth = true_residual (system_on ia ib s table) (vec_at s RHS n₃) tolerance (vec_at s SOLUTION n₃) (vec_at s RESIDUAL n₃)

  module _ {t : List Float} where
    sol₀ : {x : Result Tested} → Does Testing s t x Truth → vec_at t SOLUTION n₃ ≡ vec_at s SOLUTION n₃
    sol₀ d = kept-vec d.kept SOLUTION n₃ (λ i x y. omega (arith, pre.most))

    pub settle-over : Does Testing s t (go (record { residual = vec_at t RESIDUAL n₃; solved = true })) Truth
        → Does Passing s t (leave (vec_at t SOLUTION n₃)) Settled
    unfolding settle
    settle-over d = record { kept = kept_more d.kept passing-testing; is = ap leave (sol₀ d) ∙ leave-yes _ _ refl ∙ try-go _ d.is }

    pub settle-failed : {f : CollisionError} → Does Testing s t (stop f) Truth → Does Passing s t (fail f) Settled
    unfolding settle
    settle-failed d = record { kept = kept_more d.kept passing-testing; is = try-stop _ d.is }

    module _ (d : Does Testing s t (go (record { residual = vec_at t RESIDUAL n₃; solved = false })) Truth) {next : Float}
        (en : next ≡ scaled_square (vec_at t RESIDUAL n₃) (vec_at t DIAGONAL n₃)) {u : List Float}
        (e : Does (Beside DIRECTION) t u (vec_at u DIRECTION n₃) (next_direction (vec_at t RESIDUAL n₃) (vec_at t DIAGONAL n₃) (next ⊘ rho)
        (vec_at t DIRECTION n₃)))
      where
        diag : vec_at t DIAGONAL n₃ ≡ vec_at s DIAGONAL n₃
        diag = kept-vec d.kept DIAGONAL n₃ (λ i x y. omega (arith, pre.most))

        next-is : next ≡ scaled_square (vec_at t RESIDUAL n₃) (vec_at s DIAGONAL n₃)
        next-is = en ∙ ap (scaled_square (vec_at t RESIDUAL n₃)) diag

        sol : vec_at u SOLUTION n₃ ≡ vec_at s SOLUTION n₃
        sol = kept-vec e.kept SOLUTION n₃ (λ i x y. omega (arith, pre.most)) ∙ sol₀ d

        res : vec_at u RESIDUAL n₃ ≡ vec_at t RESIDUAL n₃
        res = kept-vec e.kept RESIDUAL n₃ (λ i x y. omega (arith, pre.most))

        dir : vec_at u DIRECTION n₃
            ≡ next_direction (vec_at t RESIDUAL n₃) (vec_at s DIAGONAL n₃) (scaled_square (vec_at t RESIDUAL n₃) (vec_at s DIAGONAL n₃) ⊘ rho)
            (vec_at s DIRECTION n₃)
        dir =
            e.is
            ∙ λ j. next_direction (vec_at t RESIDUAL n₃) (diag j) (next-is j ⊘ rho) (kept-vec d.kept DIRECTION n₃ (λ i x y. omega (arith, pre.most)) j)

        pub settle-next : Does Passing s u (ran (go (go (search_at u n₃ next))) 0 1) Settled
        unfolding settle
        settle-next = record {
          kept = kept_then (kept_more d.kept passing-testing) e.kept (passing-vector DIRECTION (omega arith) (omega arith));
          is = (λ j. ran (go (go (record { solution = sol j; residual = res j; direction = dir j; rho = next-is j }))) 0 1) ∙ ticks (again _)
              ∙ leave-no _ _ refl ∙ try-go _ d.is;
        }

-- gradient_pass
module _ {s : List Float} {ia ib : List ℕ} (table : Table) (pre : Rows s ia ib table.place table.rows table.bodies) (tolerance rho : Float) where
  abbrev n₄ : ℕ
  n₄ = table.rows

  abbrev M₄ : System
  M₄ = system_on ia ib s table

  abbrev Whole : Counting (Turn Search (List Float))
  Whole = gradient_pass M₄ (vec_at s RHS n₄) (vec_at s DIAGONAL n₄) tolerance (search_at s n₄ rho)

  pub pass-over : go true ≡ within (vec_at s RESIDUAL n₄) tolerance → Does Passing s s (leave (vec_at s SOLUTION n₄)) Whole
  unfolding gradient_pass
  pass-over e = record { kept = kept_refl _ s; is = leave-yes _ _ refl ∙ try-go _ e }

  pub pass-wild : {f : CollisionError} → stop f ≡ within (vec_at s RESIDUAL n₄) tolerance → Does Passing s s (fail f) Whole
  unfolding gradient_pass
  pass-wild e = record { kept = kept_refl _ s; is = try-stop _ e }

  module _ (e : go false ≡ within (vec_at s RESIDUAL n₄) tolerance) {t : List Float} where
    pub pass-stuck : {f : CollisionError} → Does Passing s t (stop f) (advance M₄ (search_at s n₄ rho)) → Does Passing s t (fail f) Whole
    unfolding gradient_pass
    pass-stuck d = record { kept = d.kept; is = try-stop _ d.is ∙ leave-no _ _ refl ∙ try-go _ e }

    pub pass_on : {u : List Float} {x : Counting (Turn Search (List Float))} → Does Passing s t (go (search_at t n₄ rho)) (advance M₄ (search_at s n₄ rho))
        → Does Passing t u x (settle (system_on ia ib t table) (vec_at t RHS n₄) (vec_at t DIAGONAL n₄) tolerance (search_at t n₄ rho))
        → Does Passing s u x Whole
    unfolding gradient_pass
    pass_on {u} {x} d f = record {
      kept = kept_then d.kept f.kept (λ i x. x);
      is = f.is
          ∙ (λ j. settle (passing-system table pre d.kept j) (kept-vec d.kept RHS n₄ (λ i x y. omega (arith, pre.most)) j)
          (kept-vec d.kept DIAGONAL n₄ (λ i x y. omega (arith, pre.most)) j) tolerance (search_at t n₄ rho))
          ∙ try-go _ d.is ∙ leave-no _ _ refl ∙ try-go _ e;
    }

-- before the loop
module _ {s : List Float} {ia ib : List ℕ} (table : Table) (pre : Rows s ia ib table.place table.rows table.bodies) where
  abbrev n₅ : ℕ
  n₅ = table.rows

  abbrev M₅ : System
  M₅ = system_on ia ib s table

  abbrev Gradients : Counting (List Float)
  Gradients = gradients M₅ (vec_at s RHS n₅) (vec_at s SOLUTION n₅) (vec_at s RESIDUAL n₅)

  abbrev Prepared₅ : Result Prepared
  Prepared₅ = prepare M₅ (vec_at s RESIDUAL n₅)

  pub gradients-refused : {s₁ : List Float} {f : CollisionError} → Does Preparing s s₁ (stop f) Prepared₅ → Does Work s s₁ (fail f) Gradients
  unfolding gradients
  gradients-refused d = record { kept = kept_more d.kept (λ i x. omega arith); is = try-stop _ d.is }

  module _ {s₁ : List Float} {rho : Float} (d₁ : Does Preparing s s₁ (go (prepared_at s₁ n₅ rho)) Prepared₅) where
    kk : Kept Work s s₁
    kk = kept_more d₁.kept (λ i x. omega arith)

    rhs₁ : vec_at s₁ RHS n₅ ≡ vec_at s RHS n₅
    rhs₁ = kept-vec kk RHS n₅ (λ i x y. omega (arith, pre.most))

    pub gradients-intolerant : {f : CollisionError} → stop f ≡ tolerance_for (ratio 1 (10 ^ 12)) (vec_at s₁ RHS n₅) → Does Work s s₁ (fail f) Gradients
    unfolding gradients
    gradients-intolerant e = record { kept = kk; is = try-stop _ (e ∙ ap (tolerance_for (ratio 1 (10 ^ 12))) rhs₁) ∙ try-go _ d₁.is }

    module _ {tolerance : Float} (e : go tolerance ≡ tolerance_for (ratio 1 (10 ^ 12)) (vec_at s₁ RHS n₅)) where
      len : n₅ ≡ length M₅.rows
      len = sym (tab-length n₅ (row_on ia ib s table.place))

      begun : search_at s₁ n₅ rho ≡ record { solution = vec_at s SOLUTION n₅; residual = vec_at s RESIDUAL n₅; direction = vec_at s₁ DIRECTION n₅; rho = rho }
      begun = λ j. record {
        solution = kept-vec d₁.kept SOLUTION n₅ (λ i x y. omega (arith, pre.most)) j;
        residual = kept-vec d₁.kept RESIDUAL n₅ (λ i x y. omega (arith, pre.most)) j;
        direction = vec_at s₁ DIRECTION n₅;
        rho = rho;
      }

      pub gradients-whole : {t : List Float} {y : Counting (List Float)}
          → Does Work s₁ t y
          (up_to (gradient_most n₅) NonConvergent (gradient_pass (system_on ia ib s₁ table) (vec_at s₁ RHS n₅) (vec_at s₁ DIAGONAL n₅) tolerance)
          (search_at s₁ n₅ rho))
          → Does Work s t y Gradients
      unfolding gradients
      gradients-whole {t} {y} d = record {
        kept = kept_then kk d.kept (λ i q. q);
        is = d.is
            ∙ (λ j. up_to (gradient_most (len j)) NonConvergent (gradient_pass (work-system table pre kk j) (rhs₁ j) (vec_at s₁ DIAGONAL n₅) tolerance)
            (begun j))
            ∙ try-go _ (e ∙ ap (tolerance_for (ratio 1 (10 ^ 12))) rhs₁) ∙ try-go _ d₁.is;
      }
