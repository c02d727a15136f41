-- The masses, the velocity loop, and the states of its candidates (FinishLaws).
use Rattle.std.proofs.lemmas.Result.{err_from_is_err_and}
use Rattle.step.proofs.FinishLaws.{not-weighed, not-rested, all-finished}
use Rattle.step.proofs.integrator.finish_run.Goals as goal

pub returns-in_err-prepare_masses : goal.returns-in_err-prepare_masses
returns-in_err-prepare_masses c joints dt =
    let error = err_from_is_err_and c.from_residual.result c.from_residual.ensures.1 in
    rw (error.1, error.2) (not-weighed joints dt c.args.cyclic _ c.args.rows.now _ _ _ c.in_err-prepare_masses.ensures)

pub returns-in_err-stage_loop : goal.returns-in_err-stage_loop
returns-in_err-stage_loop c joints dt =
    let error = err_from_is_err_and c.from_residual-in_err-stage_loop.result c.from_residual-in_err-stage_loop.ensures.1 in
    rw (error.1, error.2)
    (not-rested joints dt c.args.cyclic _ c.args.rows.now _ _ _ c.in_ok-prepare_masses.ensures _ _ c.in_err-stage_loop.ensures.0)

pub returns : goal.returns
returns c joints dt =
    all-finished joints dt c.args.cyclic _ c.args.rows.now _ _ _ c.in_ok-prepare_masses.ensures _ _ c.in_ok-stage_loop.ensures.0
    c.make_states.result c.make_states.ensures
