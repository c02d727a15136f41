-- Loops of at most so many passes, each over the scratch: by `Reached` the loop, its ends, and what stands before it. Least squares, the gradients
-- and the refinements share them.
use Prim.Native.Nat.{ℕ, ◌+◌, ◌≤◌, ◌<◌}
use mathlib.Core.Path.{◌≡◌, refl, sym, ◌∙◌, ap}
use mathlib.Core.List.{List}
use native.Mathlib.Nat.{add-zero}
use native.Mathlib.Omega.{arith}
use lib.ListN.{length}
use lib.Ieee.{Float}
use Rattle.arith.specs.Flow.{Turn, go, stop}
use Rattle.arith.specs.Run.{ran, after, up_to}
use Rattle.arith.specs.RunLaws.{run_is, Reached, reached-none, reached-again, reached-over, reached-spent, over}
use Rattle.rows.specs.Fault.{CollisionError, NonConvergent, Result}
use Rattle.rows.specs.View.{Kept}
use Rattle.rows.specs.Region.{kept_refl, kept_then}
use Rattle.solves.specs.View.{Table}
use Rattle.solves.specs.declared.joined.Rows.{Rows as Joins}
use Rattle.solves.specs.declared.joined.Path.{Path}
use Rattle.solves.specs.System.{Counting}
use Rattle.solves.specs.Region.{vec_at, Does}
use Rattle.solves.specs.RegionLaws.{kept-vec}
use Rattle.solves.specs.Solver.{Search}
use Rattle.solves.specs.Search.{least_pass, gradient_pass}
use Rattle.solves.specs.View.{count_of, search_at, system_on, Rows, RowsAlong, Passing, Work, RHS, SOLUTION, DIAGONAL, END}
use Rattle.solves.specs.DoesLaws.{does-eq}
use Rattle.solves.specs.ViewLaws.{system-kept}

-- rows that are lent are ready for a solve of their table
pub ready : (rows : Joins) {s : List Float} → END ≤ length s → Rows s rows.a.now rows.b.now rows.place (count_of rows) rows.bodies
ready rows h = record {
  whole = h;
  table = rows.in_table;
  most = rows.few_rows;
  bodies = rows.few_bodies;
  a-there = rows.a_there;
  b_there = rows.b_there;
}

pub ready-along : (path : Path) {s : List Float} → END ≤ length s
    → RowsAlong s path.rows.a.now path.rows.b.now path.order.now path.rows.place (count_of path.rows) path.rows.bodies
ready-along path h = record { rows = ready path.rows h; along = path.along }

-- a call that counted on from l
pub counted-on : {A : Type 0} {P : ℕ → Type 0} {s t : List Float} {r : Result A} {d : Counting A} {k l' : ℕ} (l : ℕ) → Does P s t (ran r 0 k) d
    → l' ≡ l + k → Does P s t (ran r 0 l') (after 0 l d)
counted-on {r} l e h = record { kept = e.kept; is = ap (ran r 0) h ∙ ap (after 0 l) e.is }

pub counted-none : {A : Type 0} {P : ℕ → Type 0} {s t : List Float} {r : Result A} {d : Counting A} (l : ℕ) → Does P s t (ran r 0 0) d
    → Does P s t (ran r 0 l) (after 0 l d)
counted-none l e = counted-on l e (sym (add-zero l))

-- the same by a call whose definition is part of another's
pub counted-by : {A : Type 0} {P Q : ℕ → Type 0} {s u v : List Float} {x d e : Counting A} (l : ℕ) → Does Q u v x (after 0 l d)
    → ((y : Counting A) → Does Q u v y d → Does P s v y e) → Does P s v x (after 0 l e)
counted-by l c f =
    let whole = f _ (record { kept = c.kept; is = refl }) in
    record { kept = whole.kept; is = c.is ∙ ap (after 0 l) whole.is }

-- a pass does the same to the system, the right side and the diagonal that the loop began with
module _ {z : List Float} {ia ib : List ℕ} (table : Table) (pre : Rows z ia ib table.place table.rows table.bodies) where
  pub passing-system : {s t : List Float} → Kept Passing s t → system_on ia ib t table ≡ system_on ia ib s table
  passing-system k = system-kept ia ib table (λ i x y. omega arith) pre.table pre.most pre.bodies k

  pub work-system : {s t : List Float} → Kept Work s t → system_on ia ib t table ≡ system_on ia ib s table
  work-system k = system-kept ia ib table (λ i x y. omega arith) pre.table pre.most pre.bodies k

  module _ (tolerance : Float) {s t : List Float} (k : Kept Passing s t) (x : Search) where
    pub least_kept : least_pass (system_on ia ib t table) tolerance x ≡ least_pass (system_on ia ib s table) tolerance x
    least_kept = λ j. least_pass (passing-system k j) tolerance x

    pub gradient_kept : gradient_pass (system_on ia ib t table) (vec_at t RHS table.rows) (vec_at t DIAGONAL table.rows) tolerance x
        ≡ gradient_pass (system_on ia ib s table) (vec_at s RHS table.rows) (vec_at s DIAGONAL table.rows) tolerance x
    gradient_kept = λ j. gradient_pass (passing-system k j) (kept-vec k RHS table.rows (λ i x y. omega (arith, pre.most)) j)
        (kept-vec k DIAGONAL table.rows (λ i x y. omega (arith, pre.most)) j) tolerance x

-- ---- a loop over the scratch that counts one linear pass a turn: before turn k it stands at s with a. One law for all three.
module _ {A B : Type 0} (P : ℕ → Type 0) (most : ℕ) (pass : A → Counting (Turn A B)) (s₀ : List Float) (start : A) where
  pub record Came (k : ℕ) (s : List Float) (a : A) : Type 0 where
    pub kept : Kept P s₀ s
    pub reached : Reached most NonConvergent pass start k a 0 k

module _ {A B : Type 0} {P : ℕ → Type 0} {most : ℕ} {pass : A → Counting (Turn A B)} {s₀ : List Float} {start : A} where
  pub came-none : Came P most pass s₀ start 0 s₀ start
  came-none = record { kept = kept_refl P s₀; reached = reached-none most NonConvergent pass start }

  module _ {k : ℕ} {s : List Float} {a : A} (inv : Came P most pass s₀ start k s a) (h : k < most) {t : List Float} (kept : Kept P s t) where
    pub came-again : {b : A} → ran (go (go b)) 0 1 ≡ pass a → Came P most pass s₀ start (k + 1) t b
    came-again e = record { kept = kept_then inv.kept kept (λ i q. q); reached = reached-again most NonConvergent pass start inv.reached h e }

    pub came-over : {j : ℕ} (r : Result B) → ran (over r) 0 j ≡ pass a → Does P s₀ t (ran r 0 (k + j)) (up_to most NonConvergent pass start)
    came-over r e = record { kept = kept_then inv.kept kept (λ i q. q); is = reached-over most NonConvergent pass start inv.reached h r e }

    -- by a turn that counted none
    pub came-out : (r : Result B) → ran (over r) 0 0 ≡ pass a → Does P s₀ t (ran r 0 k) (up_to most NonConvergent pass start)
    came-out r e = does-eq (run_is refl (sym (add-zero k))) (came-over r e)

  pub came-spent : {k : ℕ} {s : List Float} {a : A} → Came P most pass s₀ start k s a → most ≤ k
      → Does P s₀ s (ran (stop NonConvergent) 0 most) (up_to most NonConvergent pass start)
  came-spent {k} inv h =
      let same : most ≡ k = omega (arith, inv.reached.turns) in
      record { kept = inv.kept; is = run_is refl same ∙ reached-spent most NonConvergent pass start inv.reached h }

-- ---- both searches: rho goes to the next pass
abbrev pub Searched : ℕ → ℕ → (Search → Counting (Turn Search (List Float))) → List Float → Float → ℕ → List Float → Float → Type 0
Searched n most pass s₀ start k s rho = Came Passing most pass s₀ (search_at s₀ n start) k s (search_at s n rho)

module _ (n : ℕ) {most : ℕ} {pass : Search → Counting (Turn Search (List Float))} {s₀ : List Float} {start : Float}
    {k : ℕ} {s : List Float} {rho : Float} (inv : Searched n most pass s₀ start k s rho) (h : k < most) {t : List Float} where
  pub search-again : {next : Float} → Does Passing s t (ran (go (go (search_at t n next))) 0 1) (pass (search_at s n rho))
      → Searched n most pass s₀ start (k + 1) t next
  search-again d = came-again inv h d.kept d.is

  pub search-over : Does Passing s t (ran (go (stop (vec_at t SOLUTION n))) 0 0) (pass (search_at s n rho))
      → Does Passing s₀ t (ran (go (vec_at t SOLUTION n)) 0 k) (up_to most NonConvergent pass (search_at s₀ n start))
  search-over d = came-out inv h d.kept (go (vec_at t SOLUTION n)) d.is

  pub search-failed : {f : CollisionError} → Does Passing s t (ran (stop f) 0 0) (pass (search_at s n rho))
      → Does Passing s₀ t (ran (stop f) 0 k) (up_to most NonConvergent pass (search_at s₀ n start))
  search-failed {f} d = came-out inv h d.kept (stop f) d.is
