-- A row more, the first that fails, and the last, from the cleared band.
use Rattle.std.proofs.Common.{arith}
use Rattle.std.proofs.lemmas.Result.{err_from_is_err_and}
use Rattle.solves.proofs.SearchLaws.{ready-along}
use Rattle.solves.proofs.FactorLaws.{rows_none, rows_more, rows-stop, rows_end, factor-from}
use Rattle.solves.proofs.path.path_factor.Goals as goal

pub loop-i-init : goal.loop-i-init
loop-i-init c = rows_none (ready-along c.args.path.now c.requires) _

pub returns-in_err-path_row : goal.returns-in_err-path_row
returns-in_err-path_row c =
    let n = c.count-n.ensures in
    let error = err_from_is_err_and c.from_residual.result c.from_residual.ensures.1 in
    rw (error.1, error.2)
    (factor-from (ready-along c.args.path.now c.requires) _ (rw n at c.clear.ensures)
    (rows-stop (ready-along c.args.path.now c.requires) _ _ c.loop-i.invariant (omega arith) c.in_err-path_row.ensures))

pub loop-i-preserved : goal.loop-i-preserved
loop-i-preserved c = rows_more (ready-along c.args.path.now c.requires) _ _ c.loop-i.invariant c.in_ok-path_row.ensures

pub returns : goal.returns
returns c =
    let n = c.count-n.ensures in
    factor-from (ready-along c.args.path.now c.requires) _ (rw n at c.clear.ensures)
    (rows_end (ready-along c.args.path.now c.requires) _ c.loop-i.invariant (omega arith) (omega arith))
