-- The scales, and the factor by them.
use Rattle.std.proofs.lemmas.Result.{err_from_is_err_and}
use Rattle.solves.proofs.SearchLaws.{ready-along}
use Rattle.solves.proofs.FactorLaws.{factored-unscaled, factored-on}
use Rattle.solves.proofs.path.path_factored.Goals as goal

pub returns-in_err-path_scale : goal.returns-in_err-path_scale
returns-in_err-path_scale c =
    let error = err_from_is_err_and c.from_residual.result c.from_residual.ensures.1 in
    rw (error.1, error.2)
    (factored-unscaled (ready-along c.args.path.now c.requires) c.in_err-path_scale.ensures)

pub returns : goal.returns
returns c = factored-on (ready-along c.args.path.now c.requires) c.in_ok-path_scale.ensures c.path_factor.result c.path_factor.ensures
