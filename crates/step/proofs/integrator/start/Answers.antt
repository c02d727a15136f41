-- The three calls one after the other (LoopLaws).
use Rattle.std.proofs.lemmas.Result.{err_from_is_err_and}
use Rattle.step.specs.RunView.{job_for}
use Rattle.step.proofs.LoopLaws.{of-all, no_body, no_rows, all-begun}
use Rattle.step.proofs.integrator.start.Goals as goal

pub returns-in_err-start_bodies : goal.returns-in_err-start_bodies
returns-in_err-start_bodies c dt cyclic =
    let job = job_for c.args.joints.now dt cyclic in
    let error = err_from_is_err_and c.from_residual.result c.from_residual.ensures.1 in
    rw (error.1, error.2) (of-all job _ c.requires.0 (no_body job _ c.args.rows.now c.requires.1.apart _ _ c.in_err-start_bodies.ensures))

pub returns-in_err-write_rows : goal.returns-in_err-write_rows
returns-in_err-write_rows c dt cyclic =
    let job = job_for c.args.joints.now dt cyclic in
    let error = err_from_is_err_and c.from_residual-in_err-write_rows.result c.from_residual-in_err-write_rows.ensures.1 in
    let joins = c.requires.1 in
    rw (error.1, error.2)
    (of-all job _ c.requires.0 (no_rows job _ c.args.rows.now joins.apart _ _ c.in_ok-start_bodies.ensures _
    (c.in_err-write_rows.ensures _ joins.joined _ _ joins.sides)))

pub returns : goal.returns
returns c dt cyclic =
    let job = job_for c.args.joints.now dt cyclic in
    let joins = c.requires.1 in
    of-all job _ c.requires.0 (all-begun job _ c.args.rows.now joins.apart _ _ c.in_ok-start_bodies.ensures _ joins.rows_are
    (c.in_ok-write_rows.ensures _ joins.joined _ _ joins.sides) c.prepare_masses.result c.prepare_masses.ensures)
