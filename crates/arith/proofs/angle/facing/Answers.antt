-- PI - v where x is below 0.
use Rattle.std.specs.Float.Ieee.{of_bits, round}
use Rattle.arith.specs.Angle.{facing}
use Rattle.arith.specs.FlowLaws.{cond_yes, cond_no}
use Rattle.arith.proofs.angle.facing.Goals as goal

pub returns-then-x : goal.returns-then-x
unfolding of_bits round facing
returns-then-x c = cond_yes _ _ c.if-x.true

pub returns-else-x : goal.returns-else-x
unfolding of_bits round facing
returns-else-x c = cond_no _ _ c.if-x.false
