-- The first k right sides stand in their places.
use Rattle.std.proofs.Common.{◌+◌, ◌*◌}
use Rattle.arith.specs.Real.{◌⊘◌}
use Rattle.rows.specs.View.{at}
use Rattle.solves.specs.Region.{Filled}
use Rattle.solves.specs.View.{ROWS, RHS}
use Rattle.step.specs.Words.{neg}
use Rattle.step.proofs.integrator.fill_rhs.Given as goal

abbrev pub invariant-loop-k : goal.invariant-loop-k
invariant-loop-k l = Filled RHS l.k (λ j. neg (at l.fn.s (ROWS + 14 * j + 12)) ⊘ l.dt) l.fn.s l.s
