-- The most passes that a linear solve counts, link by link of its definition: those of least squares for any, less where the solve is known.
use Rattle.std.specs.Prelude.{ℕ, ◌≤◌, Bool, List, Float}
use Rattle.std.proofs.Common.{arith}
use Rattle.arith.specs.UpToLaws.{AtMost, most-try, most-none, most-tick, most-if, most-leave, most-loop}
use Rattle.solves.specs.System.{System, rows_in, side_of, Counting}
use Rattle.solves.specs.Solver.{Search}
use Rattle.solves.specs.Path.{Factor, Refined}
use Rattle.solves.specs.Search.{least_most, gradient_most, least_pass, least_squares, settle, gradient_pass, gradients, refinement, path_along}
use Rattle.solves.specs.Search.{Choice, by_least_squares, by_path, by_gradients, choose, solve_by, linear_solve}

-- the limit of a solve over n rows
abbrev pub limit_by : Choice → ℕ → ℕ
limit_by by_least_squares n = least_most n
limit_by (by_path order) n = 4
limit_by by_gradients n = gradient_most n

-- ---- one pass counts one
module _ (system : System) (rhs : List Float) (tolerance : Float) where
  least-one : (s : Search) → AtMost 1 (least_pass system tolerance s)
  unfolding least_pass
  least-one s =
      most-leave _ _ _ (most-try _ _ λ product. most-try _ _ λ denominator. most-if _ _ _
      (most-try _ _ λ normal. most-try _ _ λ next. most-tick _ (most-none _)))

  settle-one : (diagonal : List Float) (s : Search) → AtMost 1 (settle system rhs diagonal tolerance s)
  unfolding settle
  settle-one diagonal s = most-try _ _ λ tested. most-leave _ _ _ (most-tick _ (most-none _))

  gradient-one : (diagonal : List Float) (s : Search) → AtMost 1 (gradient_pass system rhs diagonal tolerance s)
  unfolding gradient_pass
  gradient-one diagonal s = most-try _ _ λ near. most-leave _ _ _ (most-try _ _ λ moved. settle-one diagonal moved)

  refinement-one : (order : List ℕ) (factor : Factor) (s : Refined) → AtMost 1 (refinement system rhs order factor tolerance s)
  unfolding refinement
  refinement-one order factor s = most-try _ _ λ s. most-tick _ (most-try _ _ λ near. most-leave _ _ _ (most-none _))

-- ---- a solve counts at most its limit
less : {A : Type 0} {m n : ℕ} {r : Counting A} → AtMost m r → m ≤ n → AtMost n r
less h l = record { most = omega (arith, h.most) }

module _ (system : System) (rhs : List Float) where
  pub solve-most : (choice : Choice) (solution : List Float) → AtMost (limit_by choice (rows_in system)) (solve_by choice system rhs solution)
  unfolding solve_by least_squares path_along gradients
  solve-most by_least_squares solution =
      most-try _ _ λ normal. most-try _ _ λ norm. most-try _ _ λ tolerance.
      less (most-loop (least_pass system tolerance) (least-one system rhs tolerance) (least_most (rows_in system)) _ _) (omega arith)
  solve-most (by_path order) solution =
      most-try _ _ λ factor. most-try _ _ λ tolerance.
      less (most-loop (refinement system rhs order factor tolerance) (refinement-one system rhs tolerance order factor) 4 _ _) (omega arith)
  solve-most by_gradients solution =
      most-try _ _ λ p. most-try _ _ λ tolerance.
      less (most-loop (gradient_pass system rhs p.diagonal tolerance) (gradient-one system rhs tolerance p.diagonal) (gradient_most (rows_in system)) _ _)
      (omega arith)

limit-most : (choice : Choice) (n : ℕ) → limit_by choice n ≤ least_most n
limit-most by_least_squares n = omega arith
limit-most (by_path order) n = omega arith
limit-most by_gradients n = omega arith

pub linear-most : (cyclic : Bool) (system : System) (rhs : List Float) → AtMost (least_most (rows_in system)) (linear_solve cyclic system rhs)
unfolding linear_solve
linear-most cyclic system rhs =
    let choice : Choice = choose cyclic (side_of (λ r. r.a) system.rows) (side_of (λ r. r.b) system.rows) (rows_in system) in
    less (solve-most system rhs choice _) (limit-most choice (rows_in system))
