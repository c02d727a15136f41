-- What stands before the search, and its passes.
use Rattle.std.proofs.Common.{rules}
use Rattle.std.proofs.lemmas.Result.{err_from_is_err_and}
use Rattle.arith.specs.Literals.{ten_to_minus_12}
use Rattle.solves.specs.Search.{gradient_pass}
use Rattle.solves.specs.View.{table_of, count_of, system_at, rhs_at, diagonal_at}
use Rattle.solves.specs.DoesLaws.{does-is, does-more}
use Rattle.solves.specs.ViewLaws.{passing-work}
use Rattle.solves.proofs.SearchLaws.{ready, counted-none, counted-by, gradient_kept}
use Rattle.solves.proofs.GradientLaws.{gradients-refused, gradients-intolerant, gradients-whole}
use Rattle.solves.proofs.gradients.gradients.Goals as goal

pub returns-in_err-rho : goal.returns-in_err-rho
returns-in_err-rho c =
    let error = err_from_is_err_and c.from_residual.result c.from_residual.ensures.1 in
    rw (error.1, error.2)
    (counted-none _ (gradients-refused (table_of c.args.rows.now) (ready c.args.rows.now c.requires.0) c.in_err-rho.ensures))

pub returns-in_err-tolerance : goal.returns-in_err-tolerance
returns-in_err-tolerance c =
    let n = c.count-n.ensures in
    let error = err_from_is_err_and c.from_residual-in_err-tolerance.result c.from_residual-in_err-tolerance.ensures.1 in
    rw (error.1, error.2)
    (counted-none _ (gradients-intolerant (table_of c.args.rows.now) (ready c.args.rows.now c.requires.0) c.in_ok-rho.ensures
    (rw (n, ten_to_minus_12) at c.in_err-tolerance.ensures)))

pub returns : goal.returns
returns c =
    let n = c.count-n.ensures in
    counted-by _
    (rw n at (c.search.ensures (count_of c.args.rows.now)
    (gradient_pass (system_at c.prepare.new.s c.args.rows.now) (rhs_at c.prepare.new.s c.args.rows.now) (diagonal_at c.prepare.new.s c.args.rows.now)
    c.in_ok-tolerance.tolerance)
    (λ t rho r u k e. does-is (search rules) (gradient_kept (table_of c.args.rows.now) (ready c.args.rows.now c.requires.0) _ k _))))
    (λ y d. gradients-whole (table_of c.args.rows.now) (ready c.args.rows.now c.requires.0) c.in_ok-rho.ensures
    (rw (n, ten_to_minus_12) at c.in_ok-tolerance.ensures) (does-more passing-work d))
