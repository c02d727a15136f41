-- The factor, the tolerance, and the refinements.
use Rattle.std.proofs.lemmas.Result.{err_from_is_err_and}
use Rattle.arith.specs.Literals.{ten_to_minus_12}
use Rattle.solves.specs.View.{table_of}
use Rattle.solves.proofs.SearchLaws.{ready-along, counted-none, counted-by}
use Rattle.solves.proofs.SolveLaws.{along-refused, along-intolerant, along-whole}
use Rattle.solves.proofs.path.path_along.Goals as goal

pub returns-in_err-path_factored : goal.returns-in_err-path_factored
returns-in_err-path_factored c =
    let error = err_from_is_err_and c.from_residual.result c.from_residual.ensures.1 in
    rw (error.1, error.2)
    (counted-none _ (along-refused (table_of c.args.path.now.rows) (ready-along c.args.path.now c.requires.0) c.in_err-path_factored.ensures))

pub returns-in_err-tolerance : goal.returns-in_err-tolerance
returns-in_err-tolerance c =
    let n = c.count-n.ensures in
    let error = err_from_is_err_and c.from_residual-in_err-tolerance.result c.from_residual-in_err-tolerance.ensures.1 in
    rw (error.1, error.2)
    (counted-none _ (along-intolerant (table_of c.args.path.now.rows) (ready-along c.args.path.now c.requires.0) c.in_ok-path_factored.ensures
    (rw (n, ten_to_minus_12) at c.in_err-tolerance.ensures)))

pub returns : goal.returns
returns c =
    let n = c.count-n.ensures in
    counted-by _ c.refinements.ensures
    (λ y d. along-whole (table_of c.args.path.now.rows) (ready-along c.args.path.now c.requires.0) c.in_ok-path_factored.ensures
    (rw (n, ten_to_minus_12) at c.in_ok-tolerance.ensures) (rw n at c.copy.ensures) d)
