-- Each literal is the definition's fraction, rounded.
use Rattle.std.specs.Prelude.{Float}
use Rattle.std.proofs.Common.{ap}
use lib.Ieee.{of_bits, round}
use Rattle.arith.specs.Real.{◌⊗◌}
use Rattle.arith.specs.Angle.{sine_sum, factorial}
use Rattle.arith.proofs.angle.sine_sum.Goals as goal

pub returns : goal.returns
unfolding sine_sum of_bits round factorial
returns c = ap (λ (sum : Float). sum ⊗ c.args.x) c.horner.ensures
