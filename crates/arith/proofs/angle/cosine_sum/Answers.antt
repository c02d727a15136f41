-- Each literal is the definition's fraction, rounded.
use lib.Ieee.{of_bits, round}
use Rattle.arith.specs.Angle.{cosine_sum, factorial}
use Rattle.arith.proofs.angle.cosine_sum.Goals as goal

pub returns : goal.returns
unfolding cosine_sum of_bits round factorial
returns c = c.horner.ensures
