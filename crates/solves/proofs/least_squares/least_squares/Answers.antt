-- What stands before the search, and its passes.
use Rattle.std.proofs.Common.{arith, rules}
use Rattle.std.proofs.lemmas.Result.{err_from_is_err_and}
use Rattle.solves.specs.Search.{least_pass}
use Rattle.solves.specs.View.{table_of, count_of, system_at, RESIDUAL, NORMAL}
use Rattle.arith.specs.Literals.{ten_to_minus_14}
use Rattle.solves.specs.DoesLaws.{does-is, does-more}
use Rattle.solves.specs.ViewLaws.{passing-work}
use Rattle.solves.proofs.OperatorLaws.{place_of}
use Rattle.solves.proofs.SearchLaws.{ready, counted-none, counted-by, least_kept}
use Rattle.solves.proofs.LeastLaws.{least-unmoved, least-unmeasured, least-intolerant, least-whole}
use Rattle.solves.proofs.least_squares.least_squares.Goals as goal

pub operator-requires : goal.operator-requires
operator-requires c =
    (c.requires.0, place_of RESIDUAL (omega arith) (omega arith) (omega arith), place_of NORMAL (omega arith) (omega arith) (omega arith))

pub returns-in_err-operator : goal.returns-in_err-operator
returns-in_err-operator c =
    let error = err_from_is_err_and c.from_residual.result c.from_residual.ensures.1 in
    rw (error.1, error.2)
    (counted-none _ (least-unmoved (table_of c.args.rows.now) (ready c.args.rows.now c.requires.0) c.in_err-operator.ensures))

pub returns-in_err-norm : goal.returns-in_err-norm
returns-in_err-norm c =
    let n = c.count-n.ensures in
    let error = err_from_is_err_and c.from_residual-in_err-norm.result c.from_residual-in_err-norm.ensures.1 in
    rw (error.1, error.2)
    (counted-none _ (least-unmeasured (table_of c.args.rows.now) (ready c.args.rows.now c.requires.0) c.in_ok-operator.ensures (rw n at c.in_err-norm.ensures)))

pub returns-in_err-tolerance : goal.returns-in_err-tolerance
returns-in_err-tolerance c =
    let n = c.count-n.ensures in
    let error = err_from_is_err_and c.from_residual-in_err-tolerance.result c.from_residual-in_err-tolerance.ensures.1 in
    rw (error.1, error.2)
    (counted-none _
    (least-intolerant (table_of c.args.rows.now) (ready c.args.rows.now c.requires.0) c.in_ok-operator.ensures (rw n at c.in_ok-norm.ensures)
    (rw (n, ten_to_minus_14) at c.in_err-tolerance.ensures)))

pub returns : goal.returns
returns c =
    let n = c.count-n.ensures in
    counted-by _
    (rw n at (c.search.ensures (count_of c.args.rows.now)
    (least_pass (system_at c.copy.new.s c.args.rows.now) c.in_ok-tolerance.tolerance)
    (λ t rho r u k e. does-is (search rules) (least_kept (table_of c.args.rows.now) (ready c.args.rows.now c.requires.0) _ k _))))
    (λ y d. least-whole (table_of c.args.rows.now) (ready c.args.rows.now c.requires.0) c.in_ok-operator.ensures (rw n at c.in_ok-norm.ensures)
    (rw (n, ten_to_minus_14) at c.in_ok-tolerance.ensures) (rw n at c.copy.ensures) (does-more passing-work d))
