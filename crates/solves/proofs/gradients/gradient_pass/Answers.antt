-- Over, or its two halves.
use Rattle.std.proofs.lemmas.Result.{err_from_is_err_and}
use Rattle.solves.specs.View.{table_of}
use Rattle.solves.proofs.SearchLaws.{ready}
use Rattle.solves.proofs.GradientLaws.{pass-over, pass-wild, pass-stuck, pass_on}
use Rattle.solves.proofs.gradients.gradient_pass.Goals as goal

pub returns-in_err-within : goal.returns-in_err-within
returns-in_err-within c =
    let error = err_from_is_err_and c.from_residual.result c.from_residual.ensures.1 in
    rw (error.1, error.2)
    (pass-wild (table_of c.args.rows.now) (ready c.args.rows.now c.requires) _ _ (rw c.count.ensures at c.in_err-within.ensures))

pub returns-then-branch : goal.returns-then-branch
returns-then-branch c = pass-over (table_of c.args.rows.now) (ready c.args.rows.now c.requires) _ _
    (rw (c.count.ensures, c.if-branch.true) at c.in_ok-within.ensures)

pub returns-in_err-advance : goal.returns-in_err-advance
returns-in_err-advance c =
    let error = err_from_is_err_and c.from_residual-in_err-advance.result c.from_residual-in_err-advance.ensures.1 in
    rw (error.1, error.2)
    (pass-stuck (table_of c.args.rows.now) (ready c.args.rows.now c.requires) _ _ (rw (c.count.ensures, c.if-branch.false) at c.in_ok-within.ensures)
    c.in_err-advance.ensures)

pub returns : goal.returns
returns c =
    pass_on (table_of c.args.rows.now) (ready c.args.rows.now c.requires) _ _ (rw (c.count.ensures, c.if-branch.false) at c.in_ok-within.ensures)
    c.in_ok-advance.ensures c.settle.ensures
