-- The start, the nonlinear loop, and the end of the run (FinishLaws).
use Rattle.std.proofs.Common.{arith, length}
use Rattle.std.specs.Prelude.{leb}
use Rattle.std.proofs.lemmas.Result.{err_from_is_err_and}
use Rattle.step.specs.RunView.{job_for}
use Rattle.step.proofs.CountLaws.{loop-few}
use Rattle.step.proofs.FinishLaws.{not-started, not-met, all-run}
use Rattle.step.proofs.integrator.run_loops.Goals as goal

pub returns-in_err-start : goal.returns-in_err-start
returns-in_err-start c =
    let cyclic = leb c.args.rows.now.bodies (length c.args.joints.now) in
    let error = err_from_is_err_and c.from_residual.result c.from_residual.ensures.1 in
    rw (error.1, error.2) (not-started _ _ c.args.rows.now _ _ _ (c.in_err-start.ensures c.args.dt cyclic))

pub returns-in_err-stage_loop : goal.returns-in_err-stage_loop
returns-in_err-stage_loop c =
    let cyclic = leb c.args.rows.now.bodies (length c.args.joints.now) in
    let error = err_from_is_err_and c.from_residual-in_err-stage_loop.result c.from_residual-in_err-stage_loop.ensures.1 in
    rw (error.1, error.2)
    (not-met _ _ c.args.rows.now _ _ _ (c.in_ok-start.ensures c.args.dt cyclic) c.requires.1.apart _ _
    (rw c.count.ensures at c.clear.ensures) _ c.in_err-stage_loop.ensures.0)

pub finish_run-requires : goal.finish_run-requires
finish_run-requires c =
    let met = c.in_ok-stage_loop.ensures in (
      omega (arith, c.requires.0),
      omega (arith, c.requires.2, met.1),
      loop-few (job_for _ _ _) c.args.rows.now _ c.requires.3 met.0,
    )

pub returns : goal.returns
returns c =
    let cyclic = leb c.args.rows.now.bodies (length c.args.joints.now) in
    all-run _ _ c.args.rows.now _ _ _ (c.in_ok-start.ensures c.args.dt cyclic) c.requires.1.apart _ _
    (rw c.count.ensures at c.clear.ensures) _ c.in_ok-stage_loop.ensures.0 (c.finish_run.ensures _ _)
