-- The difference of the two, double by double.
use Rattle.std.proofs.Common.{rules}
use Rattle.arith.specs.Real.{◌⊖◌}
use Rattle.solves.specs.Solver.{difference}
use Rattle.solves.proofs.values.difference.Goals as goal

pub returns : goal.returns
unfolding difference
returns c = c.combine.ensures (λ p q. p ⊖ q) (λ p q r e. search rules)
