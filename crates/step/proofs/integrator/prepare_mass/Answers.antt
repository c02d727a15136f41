-- A mass response that fails, and one that is stored (TableLaws).
use Rattle.std.proofs.lemmas.Result.{err_from_is_err_and}
use Rattle.step.proofs.TableLaws.{weigh-over, weigh-there}
use Rattle.step.proofs.integrator.prepare_mass.Goals as goal

pub returns-in_err-mass : goal.returns-in_err-mass
returns-in_err-mass c =
    let error = err_from_is_err_and c.from_residual.result c.from_residual.ensures.1 in
    rw (error.1, error.2) (weigh-over _ c.args.k c.in_err-mass.ensures _)

pub returns : goal.returns
returns c = weigh-there _ _ c.in_ok-mass.ensures c.column-x.ensures c.column-y.ensures c.column-z.ensures c.store_mass.ensures
