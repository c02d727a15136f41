-- Each literal is the definition's fraction, rounded.
use Rattle.std.specs.Prelude.{Float}
use Rattle.std.proofs.Common.{ap}
use lib.Ieee.{of_bits, round}
use Rattle.arith.specs.Real.{◌⊗◌}
use Rattle.arith.specs.Angle.{arc_sum}
use Rattle.arith.proofs.angle.arc_sum.Goals as goal

pub returns : goal.returns
unfolding arc_sum of_bits round
returns c = ap (λ (sum : Float). sum ⊗ c.args.q) c.horner.ensures
