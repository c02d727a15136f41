-- The shares by `transpose`, then the kicks (VelocityLaws).
use Rattle.std.proofs.lemmas.Result.{err_from_is_err_and}
use Rattle.step.proofs.VelocityLaws.{apply-stops, apply-then}
use Rattle.step.proofs.velocity.VelocityStageApply.apply.Goals as goal

pub returns-in_err-transpose : goal.returns-in_err-transpose
returns-in_err-transpose c =
    let error = err_from_is_err_and c.from_residual.result c.from_residual.ensures.1 in
    rw (error.1, error.2) (apply-stops c.args.rows.now _ _ c.in_err-transpose.ensures.0)

pub returns : goal.returns
returns c = apply-then c.args.rows.now _ _ c.in_ok-transpose.ensures.0 c.kick_candidates.ensures
