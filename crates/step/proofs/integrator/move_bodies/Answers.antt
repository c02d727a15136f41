-- A body more, a body that fails, and the last.
use Rattle.std.proofs.Common.{refl, arith}
use Rattle.std.proofs.lemmas.Result.{err_from_is_err_and}
use Rattle.step.proofs.TableLaws.{move-none, move-again, move-stops, move-ends}
use Rattle.step.proofs.integrator.move_bodies.Goals as goal

pub loop-k-init : goal.loop-k-init
loop-k-init c = move-none _ _ _

pub returns-in_err-body : goal.returns-in_err-body
returns-in_err-body c =
    let error = err_from_is_err_and c.from_residual.result c.from_residual.ensures.1 in
    rw (error.1, error.2)
    (move-stops _ _ _ c.loop-k.invariant c.loop-k-test.true c.requires c.load_generalized-share.ensures c.load_start.ensures refl c.in_err-body.ensures)

pub loop-k-preserved : goal.loop-k-preserved
loop-k-preserved c =
    move-again _ _ _ c.loop-k.invariant c.loop-k-test.true c.requires
    c.load_generalized-share.ensures c.load_start.ensures refl c.in_ok-body.ensures c.store_candidate.ensures

pub returns : goal.returns
returns c = move-ends _ _ _ c.loop-k.invariant (omega arith) c.loop-k-test.false c.requires
