-- least_squares: a pass is five writes, with the views between them; then what stands before the loop.
use Prim.Native.Nat.{ℕ, ◌^◌}
use mathlib.Core.Path.{◌≡◌, sym, ◌∙◌, ap}
use mathlib.Core.Bool.{true, false}
use mathlib.Core.List.{List}
use native.Mathlib.Omega.{arith}
use lib.ListN.{length}
use lib.Ieee as Ieee
use lib.Ieee.{Float, binary64}
use Rattle.arith.specs.Real.{ratio, ◌⊘◌}
use Rattle.arith.specs.Root.{sqrt}
use Rattle.arith.specs.Flow.{Turn, go, stop}
use Rattle.arith.specs.Run.{ran, again, leave, fail, up_to}
use Rattle.arith.specs.RunLaws.{ticks, try-go, try-stop, fail-yes, fail-no, leave-yes, leave-no}
use Rattle.rows.specs.Fault.{CollisionError, NonConvergent}
use Rattle.rows.specs.View.{Kept}
use Rattle.rows.specs.Region.{tab-length, kept_refl, kept_then, kept_more}
use Rattle.solves.specs.View.{Table}
use Rattle.solves.specs.System.{System, Counting}
use Rattle.solves.specs.Region.{vec_at, Does}
use Rattle.solves.specs.RegionLaws.{kept-vec}
use Rattle.solves.specs.Solver.{dot, operator, plus, minus, tolerance_for, Search}
use Rattle.solves.specs.Search.{least_most, least_pass, least_squares}
use Rattle.solves.specs.View.{row_on, system_on, search_at, Rows, Beside, Operating, Passing, Work, RHS, SOLUTION, RESIDUAL, DIRECTION, PRODUCT, NORMAL}
use Rattle.solves.specs.ViewLaws.{passing-vector, passing-moves, passing-normal}
use Rattle.solves.proofs.VectorLaws.{plus-neg}
use Rattle.solves.proofs.SearchLaws.{passing-system, work-system}

-- ---- how far a pass has come: the product stands in s₁
pub record Moved (s : List Float) (ia ib : List ℕ) (table : Table) (tolerance norm : Float) (s₁ : List Float) : Type 0 where
  pub on : Ieee.le (sqrt binary64 norm) tolerance ≡ false
  pub does : Does (Operating PRODUCT) s s₁ (go (vec_at s₁ PRODUCT table.rows)) (operator (system_on ia ib s table) (vec_at s DIRECTION table.rows))

-- solution and residual went on by norm ⊘ y, in s₃
pub record Advanced (s : List Float) (ia ib : List ℕ) (table : Table) (tolerance norm : Float) (s₁ : List Float) (y : Float) (s₃ : List Float) : Type 0 where
  pub moved : Moved s ia ib table tolerance norm s₁
  pub sum : go y ≡ dot (vec_at s₁ PRODUCT table.rows) (vec_at s₁ PRODUCT table.rows)
  pub above : Ieee.le y (ratio 0 1) ≡ false
  pub kept : Kept Passing s s₃
  pub solution : vec_at s₃ SOLUTION table.rows ≡ plus (vec_at s SOLUTION table.rows) (norm ⊘ y) (vec_at s DIRECTION table.rows)
  pub residual : vec_at s₃ RESIDUAL table.rows ≡ minus (vec_at s RESIDUAL table.rows) (norm ⊘ y) (vec_at s₁ PRODUCT table.rows)
  pub direction : vec_at s₃ DIRECTION table.rows ≡ vec_at s DIRECTION table.rows

module _ {s : List Float} {ia ib : List ℕ} (table : Table) (pre : Rows s ia ib table.place table.rows table.bodies) (tolerance norm : Float) where
  abbrev n : ℕ
  n = table.rows

  abbrev M : System
  M = system_on ia ib s table

  abbrev OnePass : Counting (Turn Search (List Float))
  OnePass = least_pass M tolerance (search_at s n norm)

  module _ {x : Float} (ex : x ≡ sqrt binary64 norm) where
    pub pass-solved : Ieee.le x tolerance ≡ true → Does Passing s s (leave (vec_at s SOLUTION n)) OnePass
    unfolding least_pass
    pass-solved h = record { kept = kept_refl Passing s; is = leave-yes _ _ (ap (λ (y : Float). Ieee.le y tolerance) (sym ex) ∙ h) }

    module _ (h : Ieee.le x tolerance ≡ false) where
      on-with : Ieee.le (sqrt binary64 norm) tolerance ≡ false
      on-with = ap (λ (y : Float). Ieee.le y tolerance) (sym ex) ∙ h

      pub pass-moved : {s₁ : List Float} → Does (Operating PRODUCT) s s₁ (go (vec_at s₁ PRODUCT n)) (operator M (vec_at s DIRECTION n))
          → Moved s ia ib table tolerance norm s₁
      pass-moved d = record { on = on-with; does = d }

      pub pass-unmoved : {s₁ : List Float} {f : CollisionError} → Does (Operating PRODUCT) s s₁ (stop f) (operator M (vec_at s DIRECTION n))
          → Does Passing s s₁ (fail f) OnePass
      unfolding least_pass
      pass-unmoved d = record { kept = kept_more d.kept (passing-moves PRODUCT (omega arith) (omega arith)); is = try-stop _ d.is ∙ leave-no _ _ on-with }

  module _ {s₁ : List Float} (m : Moved s ia ib table tolerance norm s₁) where
    k₁ : Kept Passing s s₁
    k₁ = kept_more m.does.kept (passing-moves PRODUCT (omega arith) (omega arith))

    pub pass-unmeasured : {f : CollisionError} → stop f ≡ dot (vec_at s₁ PRODUCT n) (vec_at s₁ PRODUCT n) → Does Passing s s₁ (fail f) OnePass
    unfolding least_pass
    pass-unmeasured e = record { kept = k₁; is = try-stop _ e ∙ try-go _ m.does.is ∙ leave-no _ _ m.on }

    module _ {y zero : Float} (ez : zero ≡ ratio 0 1) (e₁ : go y ≡ dot (vec_at s₁ PRODUCT n) (vec_at s₁ PRODUCT n)) where
      pub pass-stuck : Ieee.le y zero ≡ true → Does Passing s s₁ (fail NonConvergent) OnePass
      unfolding least_pass
      pass-stuck g = record { kept = k₁; is = fail-yes _ _ (ap (Ieee.le y) (sym ez) ∙ g) ∙ try-go _ e₁ ∙ try-go _ m.does.is ∙ leave-no _ _ m.on }

      pub pass-advanced : Ieee.le y zero ≡ false → {s₂ s₃ : List Float}
          → Does (Beside SOLUTION) s₁ s₂ (vec_at s₂ SOLUTION n) (plus (vec_at s₁ SOLUTION n) (norm ⊘ y) (vec_at s₁ DIRECTION n))
          → Does (Beside RESIDUAL) s₂ s₃ (vec_at s₃ RESIDUAL n) (plus (vec_at s₂ RESIDUAL n) (Ieee.neg (norm ⊘ y)) (vec_at s₂ PRODUCT n))
          → Advanced s ia ib table tolerance norm s₁ y s₃
      pass-advanced h {s₂} {s₃} d₂ d₃ = record {
        moved = m;
        sum = e₁;
        above = ap (Ieee.le y) (sym ez) ∙ h;
        kept = kept_then (kept_then k₁ d₂.kept (passing-vector SOLUTION (omega arith) (omega arith)))
            d₃.kept (passing-vector RESIDUAL (omega arith) (omega arith));
        solution =
            let a = kept-vec m.does.kept SOLUTION n (λ i x y. omega arith) in
            let b = kept-vec m.does.kept DIRECTION n (λ i x y. omega arith) in
            let c = kept-vec d₃.kept SOLUTION n (λ i x y. omega arith) in
            let e = d₂.is in
            cc;
        residual =
            let a = kept-vec m.does.kept RESIDUAL n (λ i x y. omega arith) in
            let b = kept-vec d₂.kept RESIDUAL n (λ i x y. omega arith) in
            let c = kept-vec d₂.kept PRODUCT n (λ i x y. omega arith) in
            let e = d₃.is ∙ plus-neg _ _ _ in
            cc;
        direction = kept-vec d₃.kept DIRECTION n (λ i x y. omega arith) ∙ kept-vec d₂.kept DIRECTION n (λ i x y. omega arith)
            ∙ kept-vec m.does.kept DIRECTION n (λ i x y. omega arith);
      }

  module _ {s₁ : List Float} {y : Float} {s₃ : List Float} (a : Advanced s ia ib table tolerance norm s₁ y s₃) where
    op₃ : operator (system_on ia ib s₃ table) (vec_at s₃ RESIDUAL n) ≡ operator M (minus (vec_at s RESIDUAL n) (norm ⊘ y) (vec_at s₁ PRODUCT n))
    op₃ = λ j. operator (passing-system table pre a.kept j) (a.residual j)

    pub pass-unreturned : {s₄ : List Float} {f : CollisionError}
        → Does (Operating NORMAL) s₃ s₄ (stop f) (operator (system_on ia ib s₃ table) (vec_at s₃ RESIDUAL n))
        → Does Passing s s₄ (fail f) OnePass
    unfolding least_pass
    pass-unreturned d = record {
      kept = kept_then a.kept d.kept passing-normal;
      is = try-stop _ (d.is ∙ op₃) ∙ fail-no _ _ a.above ∙ try-go _ a.sum ∙ try-go _ a.moved.does.is ∙ leave-no _ _ a.moved.on;
    }

    module _ {s₄ : List Float}
        (d₄ : Does (Operating NORMAL) s₃ s₄ (go (vec_at s₄ NORMAL n)) (operator (system_on ia ib s₃ table) (vec_at s₃ RESIDUAL n))) where
      k₄ : Kept Passing s s₄
      k₄ = kept_then a.kept d₄.kept passing-normal

      pub pass-unmeasured-again : {f : CollisionError} → stop f ≡ dot (vec_at s₄ NORMAL n) (vec_at s₄ NORMAL n) → Does Passing s s₄ (fail f) OnePass
      unfolding least_pass
      pass-unmeasured-again e = record {
        kept = k₄;
        is = try-stop _ e ∙ try-go _ (d₄.is ∙ op₃) ∙ fail-no _ _ a.above ∙ try-go _ a.sum ∙ try-go _ a.moved.does.is
            ∙ leave-no _ _ a.moved.on;
      }

      module _ {next : Float} (e₄ : go next ≡ dot (vec_at s₄ NORMAL n) (vec_at s₄ NORMAL n)) {s₅ : List Float}
          (d₅ : Does (Beside DIRECTION) s₄ s₅ (vec_at s₅ DIRECTION n) (plus (vec_at s₄ NORMAL n) (next ⊘ norm) (vec_at s₄ DIRECTION n))) where
        abbrev left : Search
        left = record {
          solution = plus (vec_at s SOLUTION n) (norm ⊘ y) (vec_at s DIRECTION n);
          residual = minus (vec_at s RESIDUAL n) (norm ⊘ y) (vec_at s₁ PRODUCT n);
          direction = plus (vec_at s₄ NORMAL n) (next ⊘ norm) (vec_at s DIRECTION n);
          rho = next;
        }

        search₅ : search_at s₅ n next ≡ left
        search₅ = λ j. record {
          solution = (kept-vec d₅.kept SOLUTION n (λ i x y. omega arith) ∙ kept-vec d₄.kept SOLUTION n (λ i x y. omega arith) ∙ a.solution) j;
          residual = (kept-vec d₅.kept RESIDUAL n (λ i x y. omega arith) ∙ kept-vec d₄.kept RESIDUAL n (λ i x y. omega arith) ∙ a.residual) j;
          direction = (d₅.is
              ∙ ap (plus (vec_at s₄ NORMAL n) (next ⊘ norm)) (kept-vec d₄.kept DIRECTION n (λ i x y. omega arith) ∙ a.direction)) j;
          rho = next;
        }

        pub pass-next : Does Passing s s₅ (ran (go (go (search_at s₅ n next))) 0 1) OnePass
        unfolding least_pass
        pass-next = record {
          kept = kept_then k₄ d₅.kept (passing-vector DIRECTION (omega arith) (omega arith));
          is = (λ j. ran (go (go (search₅ j))) 0 1) ∙ ticks (again _) ∙ try-go _ e₄ ∙ try-go _ (d₄.is ∙ op₃) ∙ fail-no _ _ a.above
              ∙ try-go _ a.sum ∙ try-go _ a.moved.does.is ∙ leave-no _ _ a.moved.on;
        }

-- before the loop
module _ {s : List Float} {ia ib : List ℕ} (table : Table) (pre : Rows s ia ib table.place table.rows table.bodies) where
  abbrev m : ℕ
  m = table.rows

  abbrev S : System
  S = system_on ia ib s table

  abbrev Least : Counting (List Float)
  Least = least_squares S (vec_at s RHS m) (vec_at s SOLUTION m) (vec_at s RESIDUAL m)

  pub least-unmoved : {s₁ : List Float} {f : CollisionError} → Does (Operating NORMAL) s s₁ (stop f) (operator S (vec_at s RESIDUAL m))
      → Does Work s s₁ (fail f) Least
  unfolding least_squares
  least-unmoved d = record { kept = kept_more d.kept (λ i x. omega arith); is = try-stop _ d.is }

  module _ {s₁ : List Float} (d₁ : Does (Operating NORMAL) s s₁ (go (vec_at s₁ NORMAL m)) (operator S (vec_at s RESIDUAL m))) where
    kk : Kept Work s s₁
    kk = kept_more d₁.kept (λ i x. omega arith)

    pub least-unmeasured : {f : CollisionError} → stop f ≡ dot (vec_at s₁ NORMAL m) (vec_at s₁ NORMAL m) → Does Work s s₁ (fail f) Least
    unfolding least_squares
    least-unmeasured e = record { kept = kk; is = try-stop _ e ∙ try-go _ d₁.is }

    module _ {norm : Float} (e₁ : go norm ≡ dot (vec_at s₁ NORMAL m) (vec_at s₁ NORMAL m)) where
      rhs₁ : tolerance_for (ratio 1 (10 ^ 14)) (vec_at s₁ RHS m) ≡ tolerance_for (ratio 1 (10 ^ 14)) (vec_at s RHS m)
      rhs₁ = ap (tolerance_for (ratio 1 (10 ^ 14))) (kept-vec kk RHS m (λ i x y. omega arith))

      pub least-intolerant : {f : CollisionError} → stop f ≡ tolerance_for (ratio 1 (10 ^ 14)) (vec_at s₁ RHS m) → Does Work s s₁ (fail f) Least
      unfolding least_squares
      least-intolerant e = record { kept = kk; is = try-stop _ (e ∙ rhs₁) ∙ try-go _ e₁ ∙ try-go _ d₁.is }

      module _ {tolerance : Float} (e₂ : go tolerance ≡ tolerance_for (ratio 1 (10 ^ 14)) (vec_at s₁ RHS m)) {s₂ : List Float}
          (d₂ : Does (Beside DIRECTION) s₁ s₂ (vec_at s₂ DIRECTION m) (vec_at s₁ NORMAL m)) where
        k₂ : Kept Work s s₂
        k₂ = kept_then kk d₂.kept (λ i x. omega arith)

        begun : search_at s₂ m norm ≡ record { solution = vec_at s SOLUTION m; residual = vec_at s RESIDUAL m; direction = vec_at s₁ NORMAL m; rho = norm }
        begun = λ j. record {
          solution = (kept-vec d₂.kept SOLUTION m (λ i x y. omega arith) ∙ kept-vec d₁.kept SOLUTION m (λ i x y. omega arith)) j;
          residual = (kept-vec d₂.kept RESIDUAL m (λ i x y. omega arith) ∙ kept-vec d₁.kept RESIDUAL m (λ i x y. omega arith)) j;
          direction = d₂.is j;
          rho = norm;
        }

        len : m ≡ length S.rows
        len = sym (tab-length m (row_on ia ib s table.place))

        pub least-whole : {t : List Float} {y : Counting (List Float)}
            → Does Work s₂ t y (up_to (least_most m) NonConvergent (least_pass (system_on ia ib s₂ table) tolerance) (search_at s₂ m norm))
            → Does Work s t y Least
        unfolding least_squares
        least-whole {t} {y} d = record {
          kept = kept_then k₂ d.kept (λ i q. q);
          is = d.is ∙ (λ j. up_to (least_most (len j)) NonConvergent (least_pass (work-system table pre k₂ j) tolerance) (begun j))
              ∙ try-go _ (e₂ ∙ rhs₁) ∙ try-go _ e₁ ∙ try-go _ d₁.is;
        }
