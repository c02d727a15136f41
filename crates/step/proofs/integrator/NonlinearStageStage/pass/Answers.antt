-- The candidates, the test of their rows, and where it fails the correction (NonlinearLaws).
use Rattle.std.proofs.Common.{arith}
use Rattle.std.proofs.lemmas.Result.{err_from_is_err_and}
use Rattle.step.specs.RunView.{job_for}
use Rattle.step.proofs.NonlinearLaws.{not-found, found-met, found-unmet}
use Rattle.step.proofs.integrator.NonlinearStageStage.pass.Goals as goal

pub returns-in_err-candidate : goal.returns-in_err-candidate
returns-in_err-candidate c =
    let error = err_from_is_err_and c.from_residual.result c.from_residual.ensures.1 in
    rw (error.1, error.2)
    (not-found (job_for _ _ _) c.args.rows.now c.requires.0.apart _ _ c.args.counts.now c.in_err-candidate.ensures.0, omega arith)

pub returns-then-rows_met : goal.returns-then-rows_met
returns-then-rows_met c =
    let met = rw c.count-n.ensures at c.rows_met.ensures in (
      found-met (job_for _ _ _) c.args.rows.now c.requires.0.apart _ _ c.args.counts.now c.in_ok-candidate.ensures.0 (met _ _) c.if-rows_met.true,
      omega arith,
    )

pub returns : goal.returns
returns c =
    let met = rw c.count-n.ensures at c.rows_met.ensures in
    let filled = rw c.count-n.ensures at c.fill_rhs.ensures in
    let found = c.in_ok-candidate.ensures in
    let rest = c.correct.ensures in (
      found-unmet (job_for _ _ _) c.args.rows.now c.requires.0.apart _ _ c.args.counts.now found.0 (met _ _) c.if-rows_met.false found.1
          (filled _ _) rest.0,
      omega (arith, rest.1),
    )
