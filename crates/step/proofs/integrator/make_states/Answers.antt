-- A state more, a state that fails, and the last.
use Rattle.std.proofs.Common.{refl, ap, ◌∙◌, arith}
use Rattle.rows.specs.Body.{state_of}
use Rattle.std.proofs.lemmas.Result.{err_from_is_err_and}
use Rattle.step.proofs.TableLaws.{state-none, state-again, state-stops, state-ends}
use Rattle.step.proofs.integrator.make_states.Goals as goal

pub loop-k-init : goal.loop-k-init
loop-k-init c = state-none _ _ _

pub returns-in_err-state : goal.returns-in_err-state
returns-in_err-state c =
    let error = err_from_is_err_and c.from_residual.result c.from_residual.ensures.1 in
    rw (error.1, error.2)
    (state-stops _ _ _ c.loop-k.invariant c.loop-k-test.true c.requires.1 c.requires.0
    c.load_candidate-body.ensures refl (c.in_err-state.ensures ∙ ap (state_of _) c.load_state.ensures))

pub loop-k-preserved : goal.loop-k-preserved
loop-k-preserved c =
    state-again _ _ _ c.loop-k.invariant c.loop-k-test.true c.requires.1 c.requires.0
    c.load_candidate-body.ensures refl (c.in_ok-state.ensures ∙ ap (state_of _) c.load_state.ensures) c.store_state.ensures

pub returns : goal.returns
returns c = state-ends _ _ _ _ _ c.loop-k.invariant (omega arith) c.loop-k-test.false c.requires.1
