-- A turn more, the first that is refused, and the last.
use Rattle.std.proofs.lemmas.Result.{err_from_is_err_and}
use Rattle.arith.specs.FlowLaws.{loop-none, loop-more, loop-stop, loop-end}
use Rattle.vectors.specs.Matrix.{factor_row_of}
use Rattle.vectors.proofs.matrix.factor_row.Goals as goal

pub loop-column-init : goal.loop-column-init
loop-column-init c = loop-none _ _

pub loop-column-preserved : goal.loop-column-preserved
loop-column-preserved c = loop-more _ _ c.loop-column.invariant c.in_ok-enter.ensures

pub returns-in_err-enter : goal.returns-in_err-enter
unfolding factor_row_of
returns-in_err-enter c =
    let error = err_from_is_err_and c.from_residual.result c.from_residual.ensures.1 in
    rw (error.1, error.2) (loop-stop _ _ _ c.loop-column-test.true c.loop-column.invariant c.in_err-enter.ensures)

pub returns : goal.returns
unfolding factor_row_of
returns c = search loop-end
