-- A turn more, the first that is refused, and the last.
use Rattle.std.proofs.lemmas.Result.{err_from_is_err_and}
use Rattle.arith.specs.FlowLaws.{loop-none, loop-more, loop-stop, loop-end}
use Rattle.vectors.specs.Matrix.{factor_of}
use Rattle.vectors.proofs.matrix.factor.Goals as goal

pub loop-row-init : goal.loop-row-init
loop-row-init c = loop-none _ _

pub loop-row-preserved : goal.loop-row-preserved
loop-row-preserved c = loop-more _ _ c.loop-row.invariant c.in_ok-factor_row.ensures

pub returns-in_err-factor_row : goal.returns-in_err-factor_row
unfolding factor_of
returns-in_err-factor_row c =
    let error = err_from_is_err_and c.from_residual.result c.from_residual.ensures.1 in
    rw (error.1, error.2) (loop-stop _ _ _ c.loop-row-test.true c.loop-row.invariant c.in_err-factor_row.ensures)

pub returns : goal.returns
unfolding factor_of
returns c = search loop-end
