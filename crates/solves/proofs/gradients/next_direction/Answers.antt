-- A turn more, and the last.
use Rattle.std.proofs.Common.{arith}
use Rattle.solves.specs.RegionLaws.{filled_none}
use Rattle.solves.proofs.GradientLaws.{direct-more, direct_is}
use Rattle.solves.proofs.gradients.next_direction.Goals as goal

pub loop-k-init : goal.loop-k-init
loop-k-init c = filled_none _ _ _

pub loop-k-preserved : goal.loop-k-preserved
loop-k-preserved c = direct-more _ _ c.loop-k.invariant (omega arith) (omega arith)

pub returns : goal.returns
returns c = direct_is _ _ c.loop-k.invariant (omega arith) c.loop-k-test.false (omega arith)
