-- The sum of the two, double by double.
use Rattle.std.proofs.Common.{rules}
use Rattle.arith.specs.Real.{◌⊕◌, ◌⊗◌}
use Rattle.solves.specs.Solver.{plus}
use Rattle.solves.proofs.values.add_scaled.Goals as goal

pub returns : goal.returns
unfolding plus
returns c = c.combine.ensures (λ p q. p ⊕ c.args.alpha ⊗ q) (λ p q r e. search rules)
