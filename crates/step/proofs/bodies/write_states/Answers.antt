-- None yet, a state more, and the last.
use Rattle.std.proofs.Common.{arith}
use Rattle.step.proofs.BodyLaws.{handed-none, handed-more, handed-end}
use Rattle.step.proofs.bodies.write_states.Goals as goal

pub loop-k-init : goal.loop-k-init
loop-k-init c = handed-none

pub loop-k-preserved : goal.loop-k-preserved
loop-k-preserved c = handed-more c.loop-k.invariant c.store_state.ensures c.load_state.ensures

pub returns : goal.returns
returns c = handed-end (omega arith) (omega arith) c.loop-k.invariant
