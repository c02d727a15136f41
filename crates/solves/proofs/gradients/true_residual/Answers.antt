-- The test, the residual recomputed, and the test again.
use Rattle.std.proofs.Common.{arith}
use Rattle.std.proofs.lemmas.Result.{err_from_is_err_and}
use Rattle.solves.specs.View.{table_of, SOLUTION, PRODUCT}
use Rattle.solves.proofs.OperatorLaws.{place_of}
use Rattle.solves.proofs.SearchLaws.{ready}
use Rattle.solves.proofs.GradientLaws.{true-beyond, true-wild, true-unmoved, true-again}
use Rattle.solves.proofs.gradients.true_residual.Goals as goal

pub returns-in_err-within : goal.returns-in_err-within
returns-in_err-within c =
    let n = c.count-n.ensures in
    let error = err_from_is_err_and c.from_residual.result c.from_residual.ensures.1 in
    rw (error.1, error.2)
    (true-wild (table_of c.args.rows.now) (ready c.args.rows.now c.requires) _ (rw n at c.in_err-within.ensures))

pub returns-then-not-branch : goal.returns-then-not-branch
returns-then-not-branch c = true-beyond (table_of c.args.rows.now) (ready c.args.rows.now c.requires) _
    (rw (c.count-n.ensures, c.if-not-branch.true) at c.in_ok-within.ensures)

pub operator-requires : goal.operator-requires
operator-requires c = (
  c.requires,
  place_of SOLUTION (omega arith) (omega arith) (omega arith),
  place_of PRODUCT (omega arith) (omega arith) (omega arith),
)

pub returns-in_err-operator : goal.returns-in_err-operator
returns-in_err-operator c =
    let error = err_from_is_err_and c.from_residual-in_err-operator.result c.from_residual-in_err-operator.ensures.1 in
    rw (error.1, error.2)
    (true-unmoved (table_of c.args.rows.now) (ready c.args.rows.now c.requires) _
    (rw (c.count-n.ensures, c.if-not-branch.false) at c.in_ok-within.ensures) c.in_err-operator.ensures)

pub returns : goal.returns
returns c =
    let n = c.count-n.ensures in
    true-again (table_of c.args.rows.now) (ready c.args.rows.now c.requires) _ (rw (n, c.if-not-branch.false) at c.in_ok-within.ensures)
    c.in_ok-operator.ensures (rw n at c.difference.ensures)
    c.within-2.result (rw n at c.within-2.ensures)
