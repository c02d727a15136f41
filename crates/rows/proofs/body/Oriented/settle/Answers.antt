-- A pass more, and the pass that fails or settles.
use Rattle.std.proofs.Common.{ap}
use Rattle.std.proofs.lemmas.Result.{err_from_is_err_and}
use Rattle.arith.specs.FlowLaws.{loop-none, loop-more, loop-stop}
use Rattle.rows.specs.Body.{settled}
use Rattle.rows.proofs.body.Oriented.settle.Goals as goal

pub loop-init : goal.loop-init
loop-init c = loop-none _ _

pub returns-in_err-next : goal.returns-in_err-next
returns-in_err-next c =
    let error = err_from_is_err_and c.from_residual.result c.from_residual.ensures.1 in
    rw (error.1, error.2) (ap settled (loop-stop _ _ _ c.loop-test.true c.loop.invariant c.in_err-next.ensures))

pub returns-in-Break : goal.returns-in-Break
returns-in-Break c = ap settled (loop-stop _ _ _ c.loop-test.true c.loop.invariant (rw c.in-Break.is at c.in_ok-next.ensures))

pub loop-preserved : goal.loop-preserved
loop-preserved c = loop-more _ _ c.loop.invariant (rw c.in-Continue.is at c.in_ok-next.ensures)
