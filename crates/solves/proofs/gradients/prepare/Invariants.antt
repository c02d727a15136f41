-- The diagonal and the direction of the first k rows stand, with their rho.
use Rattle.std.proofs.Common.{[]}
use Rattle.arith.specs.Real.{ratio}
use Rattle.arith.specs.Flow.{go, loop}
use Rattle.solves.specs.Region.{Does}
use Rattle.solves.specs.View.{system_at, residual_at, prepared_at, Preparing}
use Rattle.solves.specs.Solver.{prepare_row}
use Rattle.solves.proofs.gradients.prepare.Given as goal

abbrev pub invariant-loop-k : goal.invariant-loop-k
invariant-loop-k l = Does Preparing l.fn.s l.s (go (prepared_at l.s l.k l.rho))
    (loop l.k (prepare_row (system_at l.fn.s l.rows) (residual_at l.fn.s l.rows)) (record { diagonal = []; direction = []; rho = ratio 0 1 }))
