-- A refinement, the path's solve along an order, and linear_solve: which solve is begun, and from what.
use Prim.Native.Nat.{ℕ, zero, suc, ◌+◌, ◌*◌, ◌<◌, ◌^◌}
use mathlib.Core.Path.{◌≡◌, refl, sym, ◌∙◌, ap}
use mathlib.Core.Bool.{Bool, true, false}
use mathlib.Core.List.{List, [], ◌∷◌, ◌++◌}
use native.Mathlib.Omega.{arith}
use lib.ListN.{length, replicate, length-replicate, get_or-replicate}
use lib.Ieee.{Float}
use Rattle.arith.specs.Real.{ratio}
use Rattle.arith.specs.Flow.{Turn, go, stop, tab}
use Rattle.arith.specs.FlowLaws.{then-go, then-stop, cond_yes, cond_no}
use Rattle.arith.specs.Run.{ran, after, fail, up_to}
use Rattle.arith.specs.RunLaws.{ticks, try-go, try-stop, leave-yes, leave-no}
use Rattle.rows.specs.declared.geometry.EqualityRow.{EqualityRow}
use Rattle.rows.specs.Fault.{CollisionError, NonConvergent, Result}
use Rattle.rows.specs.View.{Kept}
use Rattle.rows.specs.Region.{tab-length, is-tab, kept_then, kept_more}
use Rattle.solves.specs.View.{Table}
use Rattle.solves.specs.declared.order.NoPath.{NoPath}
use Rattle.solves.specs.System.{System, side_of, Counting}
use Rattle.solves.specs.Region.{vec_at, Filled, Does}
use Rattle.solves.specs.RegionLaws.{kept-vec, filled-vec}
use Rattle.solves.specs.Solver.{operator, difference, within, tolerance_for}
use Rattle.solves.specs.Path.{Factor, forward, backward, Refined, refine, path_order, path_factored}
use Rattle.solves.specs.Search.{least_squares, gradients, refinement, path_along, Choice, by_least_squares, by_path, by_gradients, ordered, choose}
use Rattle.solves.specs.Search.{solve_by, linear_solve}
use Rattle.solves.specs.View.{row_on, rows_on, system_on, list_of_first, band_at, factor_at, refined_at, Rows, RowsAlong, Beside, Operating, Factoring}
use Rattle.solves.specs.View.{Refining, Work}
use Rattle.solves.specs.View.{RHS, SOLUTION, RESIDUAL, PRODUCT, PATH_BAND, PATH_SCALE, PATH_RHS}
use Rattle.solves.specs.ViewLaws.{system-kept, passing-vector, passing-moves}
use Rattle.solves.proofs.SearchLaws.{work-system, Came, came-again, came-over, came-out}
use Rattle.solves.proofs.SweepLaws.{Backs}

-- what stands for the whole solve while it refines
module _ {z : List Float} {ia ib : List ℕ} (table : Table) (pre : Rows z ia ib table.place table.rows table.bodies) {s t : List Float}
    (k : Kept Refining s t) where
  pub refining-system : system_on ia ib t table ≡ system_on ia ib s table
  refining-system = system-kept ia ib table (λ i x y. omega arith) pre.table pre.most pre.bodies k

  pub refining-rhs : vec_at t RHS table.rows ≡ vec_at s RHS table.rows
  refining-rhs = kept-vec k RHS table.rows (λ i x y. omega arith)

  pub refining-factor : factor_at t table.rows ≡ factor_at s table.rows
  refining-factor = λ j. record {
    scale = kept-vec k PATH_SCALE table.rows (λ i x y. omega arith) j;
    band = kept-vec k PATH_BAND (12 * table.rows) (λ i x y. omega arith) j;
  }

-- refine
module _ {s : List Float} {ia ib order : List ℕ} (table : Table) (pre : RowsAlong s ia ib order table.place table.rows table.bodies) where
  abbrev n : ℕ
  n = table.rows

  abbrev Fine : Result Refined
  Fine = refine (system_on ia ib s table) (vec_at s RHS n) (list_of_first order n) (factor_at s n) (refined_at s n)

  -- the solves of the factor over k rows
  abbrev Forward : ℕ → List Float
  Forward k = forward k (list_of_first order n) (vec_at s PATH_SCALE n) (band_at s n) (vec_at s RESIDUAL n)

  abbrev Solution : ℕ → List Float
  Solution k = backward k (list_of_first order n) (vec_at s PATH_SCALE n) (band_at s n) (Forward k) (vec_at s SOLUTION n)

  len : n ≡ length (rows_on ia ib s table.place n)
  len = sym (tab-length n (row_on ia ib s table.place))

  long : Solution n ≡ Solution (length (rows_on ia ib s table.place n))
  long = ap Solution len

  module _ {s₁ s₂ : List Float} (d₁ : Does (Beside PATH_RHS) s s₁ (vec_at s₁ PATH_RHS n) (Forward n))
      (d₂ : Does Backs s₁ s₂ (vec_at s₂ SOLUTION n)
      (backward n (list_of_first order n) (vec_at s₁ PATH_SCALE n) (band_at s₁ n) (vec_at s₁ PATH_RHS n) (vec_at s₁ SOLUTION n)))
    where
      k₂ : Kept Refining s s₂
      k₂ = kept_then (kept_more d₁.kept (λ i x. x.1)) d₂.kept (λ i x. (x.1, passing-vector SOLUTION (omega arith) (omega arith) i x.0))

      solution-is : vec_at s₂ SOLUTION n ≡ Solution n
      solution-is = d₂.is ∙ λ j. backward n (list_of_first order n) (kept-vec d₁.kept PATH_SCALE n (λ i x y. omega arith) j)
          (kept-vec d₁.kept PATH_BAND (12 * n) (λ i x y. omega arith) j) (d₁.is j)
          (kept-vec d₁.kept SOLUTION n (λ i x y. omega arith) j)

      abbrev Op : Result (List Float)
      Op = operator (system_on ia ib s₂ table) (vec_at s₂ SOLUTION n)

      op-is : Op ≡ operator (system_on ia ib s table) (Solution n)
      op-is = λ j. operator (refining-system table pre.rows k₂ j) (solution-is j)

      pub refine-failed : {s₃ : List Float} {f : CollisionError} → Does (Operating PRODUCT) s₂ s₃ (stop f) Op → Does Refining s s₃ (stop f) Fine
      unfolding refine
      refine-failed d = record {
        kept = kept_then k₂ d.kept (λ i x. passing-moves PRODUCT (omega arith) (omega arith) i x.0);
        is = then-stop _ (d.is ∙ op-is ∙ ap (operator (system_on ia ib s table)) long);
      }

      pub refine-done : {s₃ s₄ : List Float} → Does (Operating PRODUCT) s₂ s₃ (go (vec_at s₃ PRODUCT n)) Op
          → Does (Beside RESIDUAL) s₃ s₄ (vec_at s₄ RESIDUAL n) (difference (vec_at s₃ RHS n) (vec_at s₃ PRODUCT n))
          → Does Refining s s₄ (go (refined_at s₄ n)) Fine
      unfolding refine
      refine-done {s₃} {s₄} d e = record {
        kept = kept_then k₃ e.kept (λ i x. passing-vector RESIDUAL (omega arith) (omega arith) i x.0);
        is = (λ j. go (record { solution = sol₄ j; residual = res₄ j })) ∙ then-go _ (d.is ∙ op-is ∙ ap (operator (system_on ia ib s table)) long);
      }
        where
          k₃ : Kept Refining s s₃
          k₃ = kept_then k₂ d.kept (λ i x. passing-moves PRODUCT (omega arith) (omega arith) i x.0)

          sol₄ : vec_at s₄ SOLUTION n ≡ Solution (length (rows_on ia ib s table.place n))
          sol₄ =
              kept-vec e.kept SOLUTION n (λ i x y. omega arith) ∙ kept-vec d.kept SOLUTION n (λ i x y. omega arith)
              ∙ solution-is ∙ long

          res₄ : vec_at s₄ RESIDUAL n ≡ difference (vec_at s RHS n) (vec_at s₃ PRODUCT n)
          res₄ = e.is ∙ ap (λ (l : List Float). difference l (vec_at s₃ PRODUCT n)) (refining-rhs table pre.rows k₃)

-- refinements: k were counted, and the next goes on from s
module _ {z : List Float} {ia ib order : List ℕ} (table : Table) (pre : RowsAlong z ia ib order table.place table.rows table.bodies)
    (tolerance : Float) (s₀ : List Float) where
  abbrev m : ℕ
  m = table.rows

  abbrev pub Refines : Refined → Counting (Turn Refined (List Float))
  Refines = refinement (system_on ia ib s₀ table) (vec_at s₀ RHS m) (list_of_first order m) (factor_at s₀ m) tolerance

  abbrev All : Counting (List Float)
  All = up_to 4 NonConvergent Refines (refined_at s₀ m)

  module _ {k : ℕ} {s : List Float} (inv : Came Refining 4 Refines s₀ (refined_at s₀ m) k s (refined_at s m)) (h : k < 4) where
    abbrev FineOf : Result Refined
    FineOf = refine (system_on ia ib s table) (vec_at s RHS m) (list_of_first order m) (factor_at s m) (refined_at s m)

    module _ {t : List Float} where
      fine-is : {x : Result Refined} → Does Refining s t x FineOf
          → x ≡ refine (system_on ia ib s₀ table) (vec_at s₀ RHS m) (list_of_first order m) (factor_at s₀ m) (refined_at s m)
      fine-is d = d.is ∙ λ j. refine (refining-system table pre.rows inv.kept j) (refining-rhs table pre.rows inv.kept j) (list_of_first order m)
          (refining-factor table pre.rows inv.kept j) (refined_at s m)

      pub refined-failed : {f : CollisionError} → Does Refining s t (stop f) FineOf → Does Refining s₀ t (ran (stop f) 0 k) All
      unfolding refinement
      refined-failed {f} d = came-out inv h d.kept (stop f) (try-stop _ (fine-is d))

      module _ (d : Does Refining s t (go (refined_at t m)) FineOf) where
        pub refined-over : go true ≡ within (vec_at t RESIDUAL m) tolerance → Does Refining s₀ t (ran (go (vec_at t SOLUTION m)) 0 (k + 1)) All
        unfolding refinement
        refined-over f =
            came-over inv h d.kept (go (vec_at t SOLUTION m)) (ap (after 0 1) (leave-yes _ _ refl ∙ try-go _ f) ∙ ticks _ ∙ try-go _ (fine-is d))

        pub refined-wild : {f : CollisionError} → stop f ≡ within (vec_at t RESIDUAL m) tolerance → Does Refining s₀ t (ran (stop f) 0 (k + 1)) All
        unfolding refinement
        refined-wild {f} e = came-over inv h d.kept (stop f) (ap (after 0 1) (try-stop _ e) ∙ ticks _ ∙ try-go _ (fine-is d))

        pub refined-more : go false ≡ within (vec_at t RESIDUAL m) tolerance → Came Refining 4 Refines s₀ (refined_at s₀ m) (k + 1) t (refined_at t m)
        unfolding refinement
        refined-more f = came-again inv h d.kept (ap (after 0 1) (leave-no _ _ refl ∙ try-go _ f) ∙ ticks _ ∙ try-go _ (fine-is d))

-- path_along
module _ {s : List Float} {ia ib order : List ℕ} (table : Table) (pre : RowsAlong s ia ib order table.place table.rows table.bodies) where
  abbrev n₁ : ℕ
  n₁ = table.rows

  abbrev S : System
  S = system_on ia ib s table

  abbrev Along : Counting (List Float)
  Along = path_along S (vec_at s RHS n₁) (vec_at s SOLUTION n₁) (list_of_first order n₁)

  abbrev Factored : Result Factor
  Factored = path_factored S.rows S.masses (list_of_first order n₁) n₁

  factored-is : {d : Result Factor} → d ≡ Factored → d ≡ path_factored S.rows S.masses (list_of_first order n₁) (length S.rows)
  factored-is e = e ∙ ap (path_factored S.rows S.masses (list_of_first order n₁)) (sym (tab-length n₁ (row_on ia ib s table.place)))

  pub along-refused : {t : List Float} {f : CollisionError} → Does Factoring s t (stop f) Factored → Does Work s t (fail f) Along
  unfolding path_along
  along-refused d = record { kept = kept_more d.kept (λ i x. omega arith); is = try-stop _ (factored-is d.is) }

  module _ {t : List Float} (d : Does Factoring s t (go (factor_at t n₁)) Factored) where
    kₐ : Kept Work s t
    kₐ = kept_more d.kept (λ i x. omega arith)

    rhs₁ : vec_at t RHS n₁ ≡ vec_at s RHS n₁
    rhs₁ = kept-vec kₐ RHS n₁ (λ i x y. omega arith)

    tolerance-is : {r : Result Float} → r ≡ tolerance_for (ratio 1 (10 ^ 12)) (vec_at t RHS n₁) → r ≡ tolerance_for (ratio 1 (10 ^ 12)) (vec_at s RHS n₁)
    tolerance-is e = e ∙ ap (tolerance_for (ratio 1 (10 ^ 12))) rhs₁

    pub along-intolerant : {f : CollisionError} → stop f ≡ tolerance_for (ratio 1 (10 ^ 12)) (vec_at t RHS n₁) → Does Work s t (fail f) Along
    unfolding path_along
    along-intolerant e = record { kept = kₐ; is = try-stop _ (tolerance-is e) ∙ try-go _ (factored-is d.is) }

    module _ {tolerance : Float} (e : go tolerance ≡ tolerance_for (ratio 1 (10 ^ 12)) (vec_at t RHS n₁)) {u : List Float}
        (c : Does (Beside RESIDUAL) t u (vec_at u RESIDUAL n₁) (vec_at t RHS n₁)) where
      kᵦ : Kept Work s u
      kᵦ = kept_then kₐ c.kept (λ i x. omega arith)

      begun : refined_at u n₁ ≡ record { solution = vec_at s SOLUTION n₁; residual = vec_at s RHS n₁ }
      begun = λ j. record {
        solution =
            (kept-vec c.kept SOLUTION n₁ (λ i x y. omega arith) ∙ kept-vec d.kept SOLUTION n₁ (λ i x y. omega arith))
            j;
        residual = (c.is ∙ rhs₁) j;
      }

      factor-is : factor_at u n₁ ≡ factor_at t n₁
      factor-is = λ j. record {
        scale = kept-vec c.kept PATH_SCALE n₁ (λ i x y. omega arith) j;
        band = kept-vec c.kept PATH_BAND (12 * n₁) (λ i x y. omega arith) j;
      }

      rhs-is : vec_at u RHS n₁ ≡ vec_at s RHS n₁
      rhs-is = kept-vec kᵦ RHS n₁ (λ i x y. omega arith)

      pub along-whole : {v : List Float} {y : Counting (List Float)}
          → Does Work u v y
          (up_to 4 NonConvergent (refinement (system_on ia ib u table) (vec_at u RHS n₁) (list_of_first order n₁) (factor_at u n₁) tolerance)
          (refined_at u n₁))
          → Does Work s v y Along
      unfolding path_along
      along-whole f = record {
        kept = kept_then kᵦ f.kept (λ i x. x);
        is = f.is
            ∙ (λ j. up_to 4 NonConvergent (refinement (work-system table pre.rows kᵦ j) (rhs-is j) (list_of_first order n₁) (factor-is j) tolerance) (begun j))
            ∙ try-go _ (tolerance-is e) ∙ try-go _ (factored-is d.is);
      }

-- linear_solve: from a solution of zeros and the right side as residual
side-append : (side : EqualityRow → ℕ) (xs : List EqualityRow) (row : EqualityRow) → side_of side (xs ++ (row ∷ [])) ≡ side_of side xs ++ (side row ∷ [])
unfolding side_of
side-append side [] row = refl
side-append side (x ∷ xs) row = ap (λ (l : List ℕ). side x ∷ l) (side-append side xs row)

side-tab : (side : EqualityRow → ℕ) (n : ℕ) (f : ℕ → EqualityRow) → side_of side (tab n f) ≡ tab n (λ k. side (f k))
unfolding side_of tab
side-tab side zero f = refl
side-tab side (suc n) f = side-append side (tab n f) (f n) ∙ ap (λ (l : List ℕ). l ++ (side (f n) ∷ [])) (side-tab side n f)

module _ {s : List Float} {ia ib : List ℕ} (table : Table) (pre : Rows s ia ib table.place table.rows table.bodies) (cyclic : Bool)
    {s₁ s₂ : List Float}
    (f : Filled SOLUTION table.rows (λ _. ratio 0 1) s s₁)
    (d : Does (Beside RESIDUAL) s₁ s₂ (vec_at s₂ RESIDUAL table.rows) (vec_at s₁ RHS table.rows)) where
  abbrev n₂ : ℕ
  n₂ = table.rows

  abbrev S₂ : System
  S₂ = system_on ia ib s table

  abbrev zeros : List Float
  zeros = replicate (length S₂.rows) (ratio 0 1)

  abbrev Linear : Counting (List Float)
  Linear = linear_solve cyclic S₂ (vec_at s RHS n₂)

  q₁ : Kept Work s s₁
  q₁ = kept_more f.kept (λ i x. omega arith)

  q₂ : Kept Work s s₂
  q₂ = kept_then q₁ d.kept (λ i x. omega arith)

  rhs₂ : vec_at s₂ RHS n₂ ≡ vec_at s RHS n₂
  rhs₂ = kept-vec q₂ RHS n₂ (λ i x y. omega arith)

  zeros₂ : vec_at s₂ SOLUTION n₂ ≡ zeros
  zeros₂ = kept-vec d.kept SOLUTION n₂ (λ i x y. omega arith) ∙ filled-vec f
      ∙ sym
      (is-tab n₂ (λ _. ratio 0 1) (ratio 0 1) (replicate n₂ (ratio 0 1)) (length-replicate n₂ (ratio 0 1))
      (λ k h. get_or-replicate n₂ k (ratio 0 1) (ratio 0 1) h))
      ∙ ap (λ (m : ℕ). replicate m (ratio 0 1)) (sym (tab-length n₂ (row_on ia ib s table.place)))

  residual₂ : vec_at s₂ RESIDUAL n₂ ≡ vec_at s RHS n₂
  residual₂ = d.is ∙ kept-vec q₁ RHS n₂ (λ i x y. omega arith)

  abbrev Chosen : Choice
  Chosen = choose cyclic (side_of (λ r. r.a) S₂.rows) (side_of (λ r. r.b) S₂.rows) (length S₂.rows)

  -- the solve that was chosen, from s₂
  chosen-from : (choice : Choice) → choice ≡ Chosen → {t : List Float} {y : Counting (List Float)}
      → Does Work s₂ t y (solve_by choice (system_on ia ib s₂ table) (vec_at s₂ RHS n₂) (vec_at s₂ SOLUTION n₂)) → Does Work s t y Linear
  unfolding linear_solve
  chosen-from choice h e = record {
    kept = kept_then q₂ e.kept (λ i x. x);
    is = e.is ∙ λ j. solve_by (h j) (work-system table pre q₂ j) (rhs₂ j) (zeros₂ j);
  }

  same_rhs : vec_at s₂ RESIDUAL n₂ ≡ vec_at s₂ RHS n₂
  same_rhs = residual₂ ∙ sym rhs₂

  pub linear-least : cyclic ≡ true → {t : List Float} {y : Counting (List Float)}
      → Does Work s₂ t y (least_squares (system_on ia ib s₂ table) (vec_at s₂ RHS n₂) (vec_at s₂ SOLUTION n₂) (vec_at s₂ RESIDUAL n₂)) → Does Work s t y Linear
  unfolding choose solve_by
  linear-least h e = chosen-from by_least_squares (cond_yes _ _ h)
      (record { kept = e.kept; is = e.is ∙ ap (least_squares (system_on ia ib s₂ table) (vec_at s₂ RHS n₂) (vec_at s₂ SOLUTION n₂)) same_rhs })

  module _ (h : cyclic ≡ false) where
    chosen : {x : Turn (List ℕ) NoPath} → x ≡ path_order (list_of_first ia n₂) (list_of_first ib n₂) n₂ → ordered x ≡ Chosen
    unfolding choose
    chosen e =
        ap ordered (e ∙ λ j. path_order (sym (side-tab (λ r. r.a) n₂ (row_on ia ib s table.place)) j)
        (sym (side-tab (λ r. r.b) n₂ (row_on ia ib s table.place)) j)
        (sym (tab-length n₂ (row_on ia ib s table.place)) j)) ∙ cond_no _ _ h

    pub linear-gradients : (e : NoPath) → stop e ≡ path_order (list_of_first ia n₂) (list_of_first ib n₂) n₂ → {t : List Float} {y : Counting (List Float)}
        → Does Work s₂ t y (gradients (system_on ia ib s₂ table) (vec_at s₂ RHS n₂) (vec_at s₂ SOLUTION n₂) (vec_at s₂ RESIDUAL n₂)) → Does Work s t y Linear
    unfolding solve_by
    linear-gradients e o d = chosen-from by_gradients (chosen o)
        (record { kept = d.kept; is = d.is ∙ ap (gradients (system_on ia ib s₂ table) (vec_at s₂ RHS n₂) (vec_at s₂ SOLUTION n₂)) same_rhs })

    pub linear-path : (order : List ℕ) → go (list_of_first order n₂) ≡ path_order (list_of_first ia n₂) (list_of_first ib n₂) n₂
        → {t : List Float} {y : Counting (List Float)}
        → Does Work s₂ t y (path_along (system_on ia ib s₂ table) (vec_at s₂ RHS n₂) (vec_at s₂ SOLUTION n₂) (list_of_first order n₂)) → Does Work s t y Linear
    unfolding solve_by
    linear-path order o e = chosen-from (by_path (list_of_first order n₂)) (chosen o) e
