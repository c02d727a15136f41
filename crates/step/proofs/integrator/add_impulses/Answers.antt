-- A sum more, one that is not finite, and the last.
use Rattle.std.proofs.Common.{arith}
use Rattle.std.proofs.lemmas.Result.{err_from_is_err_and}
use Rattle.step.proofs.TableLaws.{sum-none, sum-again, sum-stops, sum-ends}
use Rattle.step.proofs.integrator.add_impulses.Goals as goal

pub loop-k-init : goal.loop-k-init
loop-k-init c = sum-none _ _

pub returns-in_err-s : goal.returns-in_err-s
returns-in_err-s c =
    let error = err_from_is_err_and c.from_residual.result c.from_residual.ensures.1 in
    rw (error.1, error.2) (sum-stops _ _ _ _ c.loop-k.invariant c.loop-k-test.true c.requires c.in_err-s.ensures)

pub loop-k-preserved : goal.loop-k-preserved
loop-k-preserved c = sum-again _ _ _ _ c.loop-k.invariant c.loop-k-test.true c.requires (omega arith) c.in_ok-s.ensures

pub returns : goal.returns
returns c = sum-ends _ _ c.loop-k.invariant (omega arith) c.loop-k-test.false c.requires
