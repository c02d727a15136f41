-- The three calls one after the other (LoopLaws).
use Rattle.std.proofs.lemmas.Result.{err_from_is_err_and}
use Rattle.step.specs.RunView.{job_for}
use Rattle.step.proofs.LoopLaws.{not-pushed, not-moved, all-tried}
use Rattle.step.proofs.integrator.NonlinearStage.candidate.Goals as goal

pub returns-in_err-transpose : goal.returns-in_err-transpose
returns-in_err-transpose c =
    let error = err_from_is_err_and c.from_residual.result c.from_residual.ensures.1 in
    rw (error.1, error.2) (not-pushed (job_for _ _ _) c.args.rows.now _ _ c.in_err-transpose.ensures.0)

pub returns-in_err-move_bodies : goal.returns-in_err-move_bodies
returns-in_err-move_bodies c =
    let error = err_from_is_err_and c.from_residual-in_err-move_bodies.result c.from_residual-in_err-move_bodies.ensures.1 in
    rw (error.1, error.2)
    (not-moved (job_for _ _ _) c.args.rows.now _ _ c.in_ok-transpose.ensures.0 _ c.in_err-move_bodies.ensures)

pub returns : goal.returns
returns c =
    let joins = c.requires in
    all-tried (job_for _ _ _) c.args.rows.now _ _ c.in_ok-transpose.ensures.0 _ c.in_ok-move_bodies.ensures
    joins.rows_are c.write_rows.result (c.write_rows.ensures _ joins.joined _ _ joins.sides)
