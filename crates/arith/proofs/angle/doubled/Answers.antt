-- Its literals are the definition's fractions, rounded.
use Rattle.std.proofs.Common.{refl}
use lib.Ieee.{of_bits, round}
use Rattle.arith.specs.Angle.{doubled}
use Rattle.arith.proofs.angle.doubled.Goals as goal

pub returns : goal.returns
unfolding doubled of_bits round
returns c = refl
