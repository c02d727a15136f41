-- The first k doubles stand.
use Rattle.solves.specs.Region.{Filled}
use Rattle.solves.specs.View.{DIRECTION}
use Rattle.solves.proofs.GradientLaws.{direct}
use Rattle.solves.proofs.gradients.next_direction.Given as goal

abbrev pub invariant-loop-k : goal.invariant-loop-k
invariant-loop-k l = Filled DIRECTION l.k (direct l.fn.s l.beta) l.fn.s l.s
