-- least_squares, path_solve and linear_solve of solver.rs, pass by pass. In a `do` block `x ← e` is `let x = e?` with the passes that it counted;
-- `try` marks what counts none, `tick` is `self.linear_iterations += 1`.
use Rattle.std.specs.Prelude.{ℕ, ◌+◌, ◌*◌, ◌^◌, List, Bool, cond, replicate, Float}
use Rattle.solves.specs.Words.{binary64, le, ◌⊘◌, ratio, sqrt, go, stop, Turn, NonConvergent, NoPath}
use Rattle.arith.specs.Run.{◌>>=◌, ◌>>◌, try, tick, fail_if, again, leave_if, up_to}
use Rattle.solves.specs.System.{System, rows_in, side_of, Counting}
use Rattle.solves.specs.Solver.{operator, dot, plus, minus, within, tolerance_for, Search, prepare, true_residual, scaled_square, next_direction, advance}
use Rattle.solves.specs.Path.{Factor, Refined, path_order, path_factored, refine}

abbrev pub least_most : ℕ → ℕ  -- the most passes of least squares over n rows
least_most n = 4 * n + 64

abbrev pub gradient_most : ℕ → ℕ  -- and of the gradients
gradient_most n = 2 * n + 32

unfoldable pub least_pass : System → Float → Search → Counting (Turn Search (List Float))  -- fn least_squares: counted when it was gone through whole
least_pass system tolerance s = leave_if (le (sqrt binary64 s.rho) tolerance) s.solution do
  product ← try (operator system s.direction)
  denominator ← try (dot product product)
  fail_if (le denominator (ratio 0 1)) NonConvergent
  let alpha = s.rho ⊘ denominator
  let residual = minus s.residual alpha product
  normal ← try (operator system residual)
  next ← try (dot normal normal)
  tick
  again (record { solution = plus s.solution alpha s.direction; residual = residual; direction = plus normal (next ⊘ s.rho) s.direction; rho = next })

unfoldable pub least_squares : System → List Float → List Float → List Float → Counting (List Float)
least_squares system rhs solution residual = do
  normal ← try (operator system residual)
  norm ← try (dot normal normal)
  tolerance ← try (tolerance_for (ratio 1 (10 ^ 14)) rhs)
  up_to (least_most (rows_in system)) NonConvergent (least_pass system tolerance)
      (record { solution = solution; residual = residual; direction = normal; rho = norm })

-- fn linear_solve, the conjugate gradients: the second half of a pass, which is done or takes the next direction
unfoldable pub settle : System → List Float → List Float → Float → Search → Counting (Turn Search (List Float))
settle system rhs diagonal tolerance s = do
  tested ← try (true_residual system rhs tolerance s.solution s.residual)
  leave_if tested.solved s.solution do
    let next = scaled_square tested.residual diagonal
    let direction = next_direction tested.residual diagonal (next ⊘ s.rho) s.direction
    tick >> again (record { solution = s.solution; residual = tested.residual; direction = direction; rho = next })

unfoldable pub gradient_pass : System → List Float → List Float → Float → Search → Counting (Turn Search (List Float))
gradient_pass system rhs diagonal tolerance s = do
  near ← try (within s.residual tolerance)
  leave_if near s.solution (try (advance system s) >>= settle system rhs diagonal tolerance)

unfoldable pub gradients : System → List Float → List Float → List Float → Counting (List Float)
gradients system rhs solution residual = do
  p ← try (prepare system residual)
  tolerance ← try (tolerance_for (ratio 1 (10 ^ 12)) rhs)
  up_to (gradient_most (rows_in system)) NonConvergent (gradient_pass system rhs p.diagonal tolerance)
      (record { solution = solution; residual = residual; direction = p.direction; rho = p.rho })

-- fn path_solve, along an order of the rows: a refinement is counted once its residual is known
unfoldable pub refinement : System → List Float → List ℕ → Factor → Float → Refined → Counting (Turn Refined (List Float))
refinement system rhs order factor tolerance s = do
  next ← try (refine system rhs order factor s)
  tick
  near ← try (within next.residual tolerance)
  leave_if near next.solution (again next)

unfoldable pub path_along : System → List Float → List Float → List ℕ → Counting (List Float)
path_along system rhs solution order = do
  factor ← try (path_factored system.rows system.masses order (rows_in system))
  tolerance ← try (tolerance_for (ratio 1 (10 ^ 12)) rhs)
  up_to 4 NonConvergent (refinement system rhs order factor tolerance) (record { solution = solution; residual = rhs })

pub data Choice : Type 0 where  -- which solve is begun: from the bodies that the rows join alone
  by_least_squares by_gradients : Choice
  by_path : List ℕ → Choice

abbrev pub ordered : Turn (List ℕ) NoPath → Choice  -- a third block on a body, or a ring of blocks, declines the path
ordered path = elim path [ go order ↦ by_path order | stop _ ↦ by_gradients ]

unfoldable pub choose : Bool → List ℕ → List ℕ → ℕ → Choice
choose cyclic a b n = cond cyclic by_least_squares (ordered (path_order a b n))

unfoldable pub solve_by : Choice → System → List Float → List Float → Counting (List Float)
solve_by by_least_squares system rhs solution = least_squares system rhs solution rhs
solve_by (by_path order) system rhs solution = path_along system rhs solution order
solve_by by_gradients system rhs solution = gradients system rhs solution rhs

unfoldable pub linear_solve : Bool → System → List Float → Counting (List Float)  -- fn linear_solve: from zeros, with the right side as residual
linear_solve cyclic system rhs =
    let choice : Choice = choose cyclic (side_of (λ r. r.a) system.rows) (side_of (λ r. r.b) system.rows) (rows_in system) in
    solve_by choice system rhs (replicate (rows_in system) (ratio 0 1))
