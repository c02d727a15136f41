-- A candidate more, one that fails, and the last.
use Rattle.std.proofs.Common.{refl, arith}
use Rattle.std.proofs.lemmas.Result.{err_from_is_err_and}
use Rattle.step.proofs.VelocityLaws.{kick-none, kick-again, kick-stops, kick-ends}
use Rattle.step.proofs.velocity.kick_candidates.Goals as goal

pub loop-k-init : goal.loop-k-init
loop-k-init c = kick-none _ _

pub returns-in_err-body : goal.returns-in_err-body
returns-in_err-body c =
    let error = err_from_is_err_and c.from_residual.result c.from_residual.ensures.1 in
    rw (error.1, error.2)
    (kick-stops _ _ c.loop-k.invariant c.loop-k-test.true c.requires c.load_generalized-share.ensures c.load_candidate.ensures refl c.in_err-body.ensures)

pub loop-k-preserved : goal.loop-k-preserved
loop-k-preserved c =
    kick-again _ _ c.loop-k.invariant c.loop-k-test.true c.requires
    c.load_generalized-share.ensures c.load_candidate.ensures refl c.in_ok-body.ensures c.store_candidate.ensures

pub returns : goal.returns
returns c = kick-ends _ _ c.loop-k.invariant (omega arith) c.loop-k-test.false c.requires
