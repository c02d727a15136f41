-- `put_bodies`: one body more.
use Rattle.arith.specs.FlowLaws.{turns-none}
use Rattle.plan.proofs.Readings.{bodies-more}
use Rattle.plan.proofs.reader.put_bodies.Goals as goal

pub loop-k-init : goal.loop-k-init
loop-k-init c = turns-none _ _

pub loop-k-preserved : goal.loop-k-preserved
loop-k-preserved c = bodies-more c.args.file.now c.args.places.bytes _ _ c.loop-k-test.true _ c.loop-k.invariant c.put_body.ensures
