-- Over with the true residual, or the next direction.
use Rattle.std.proofs.lemmas.Result.{err_from_is_err_and}
use Rattle.solves.specs.View.{table_of}
use Rattle.solves.proofs.SearchLaws.{ready}
use Rattle.solves.proofs.GradientLaws.{settle-over, settle-failed, settle-next}
use Rattle.solves.proofs.gradients.settle.Goals as goal

pub returns-in_err-true_residual : goal.returns-in_err-true_residual
returns-in_err-true_residual c =
    let error = err_from_is_err_and c.from_residual.result c.from_residual.ensures.1 in
    rw (error.1, error.2)
    (settle-failed (table_of c.args.rows.now) (ready c.args.rows.now c.requires) _ _ c.in_err-true_residual.ensures)

pub returns-then-branch : goal.returns-then-branch
returns-then-branch c = settle-over (table_of c.args.rows.now) (ready c.args.rows.now c.requires) _ _ (rw c.if-branch.true at c.in_ok-true_residual.ensures)

pub returns : goal.returns
returns c =
    let n = c.count-n.ensures in
    settle-next (table_of c.args.rows.now) (ready c.args.rows.now c.requires) _ _ (rw c.if-branch.false at c.in_ok-true_residual.ensures)
    (rw n at c.scaled_square-next.ensures)
    (rw n at c.next_direction.ensures)
