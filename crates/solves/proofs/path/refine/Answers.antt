-- Forward, backward, and the residual of the solution so found.
use Rattle.std.proofs.Common.{arith}
use Rattle.std.proofs.lemmas.Result.{err_from_is_err_and}
use Rattle.solves.specs.View.{table_of, SOLUTION, PRODUCT}
use Rattle.solves.proofs.OperatorLaws.{place_of}
use Rattle.solves.proofs.SearchLaws.{ready-along}
use Rattle.solves.proofs.SolveLaws.{refine-failed, refine-done}
use Rattle.solves.proofs.path.refine.Goals as goal

pub operator-requires : goal.operator-requires
operator-requires c =
    (omega arith, place_of SOLUTION (omega arith) (omega arith) (omega arith), place_of PRODUCT (omega arith) (omega arith) (omega arith))

pub returns-in_err-operator : goal.returns-in_err-operator
returns-in_err-operator c =
    let error = err_from_is_err_and c.from_residual.result c.from_residual.ensures.1 in
    rw (error.1, error.2)
    (refine-failed (table_of c.args.path.now.rows) (ready-along c.args.path.now c.requires) c.forward.ensures c.backward.ensures c.in_err-operator.ensures)

pub returns : goal.returns
returns c =
    refine-done (table_of c.args.path.now.rows) (ready-along c.args.path.now c.requires) c.forward.ensures c.backward.ensures c.in_ok-operator.ensures
    (rw c.count.ensures at c.difference.ensures)
