-- The rates, their test, and where it fails the correction (VelocityLaws).
use Rattle.std.proofs.Common.{arith}
use Rattle.std.proofs.lemmas.Result.{err_from_is_err_and}
use Rattle.step.specs.RunView.{job_for}
use Rattle.step.proofs.VelocityLaws.{not-rated, at-rest, kicked-on}
use Rattle.step.proofs.velocity.VelocityStageStage.pass.Goals as goal

pub returns-in_err-velocity_rhs : goal.returns-in_err-velocity_rhs
returns-in_err-velocity_rhs c =
    let error = err_from_is_err_and c.from_residual.result c.from_residual.ensures.1 in
    rw (error.1, error.2) (not-rated (job_for _ _ _) c.args.rows.now _ _ _ c.in_err-velocity_rhs.ensures, omega arith)

pub returns-then-compatible : goal.returns-then-compatible
returns-then-compatible c =
    let small = rw c.count.ensures at c.compatible.ensures in
    (at-rest (job_for _ _ _) c.args.rows.now _ _ _ c.in_ok-velocity_rhs.ensures small c.if-compatible.true, omega arith)

pub returns : goal.returns
returns c =
    let small = rw c.count.ensures at c.compatible.ensures in
    let rest = c.correct.ensures in
    (kicked-on (job_for _ _ _) c.args.rows.now _ _ _ c.in_ok-velocity_rhs.ensures small c.if-compatible.false rest.0, omega (arith, rest.1))
