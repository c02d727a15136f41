-- The kick fails, or the kicked body drifts by `dt`.
use Rattle.std.proofs.Common.{◌∙◌}
use Rattle.std.proofs.lemmas.Result.{err_from_is_err_and}
use Rattle.arith.specs.FlowLaws.{then-go, then-stop}
use Rattle.step.proofs.integrator.kick_and_drift.Goals as goal

pub returns-in_err-kicked : goal.returns-in_err-kicked
returns-in_err-kicked c =
    let error = err_from_is_err_and c.from_residual.result c.from_residual.ensures.1 in
    rw (error.1, error.2) (then-stop _ c.in_err-kicked.ensures)

pub returns : goal.returns
returns c = c.drift.ensures ∙ then-go _ c.in_ok-kicked.ensures
