-- An entry more, the first that fails, and the last.
use Rattle.std.proofs.Common.{refl, arith}
use Rattle.std.proofs.lemmas.Result.{err_from_is_err_and}
use Rattle.solves.specs.DoesLaws.{does-eq}
use Rattle.solves.proofs.SearchLaws.{ready-along}
use Rattle.solves.proofs.FactorLaws.{entries-start, entries-more, entries-stop, entries-end}
use Rattle.solves.proofs.path.path_row.Goals as goal

pub loop-j-init : goal.loop-j-init
loop-j-init c = does-eq refl (entries-start (ready-along c.args.path.now c.requires.0) _ _ c.band_start-j.ensures)

pub returns-in_err-path_entry : goal.returns-in_err-path_entry
returns-in_err-path_entry c =
    let error = err_from_is_err_and c.from_residual.result c.from_residual.ensures.1 in
    rw (error.1, error.2)
    (entries-stop (ready-along c.args.path.now c.requires.0) _ _ c.loop-j.invariant (omega arith) (omega arith) c.in_err-path_entry.ensures)

pub loop-j-preserved : goal.loop-j-preserved
loop-j-preserved c = entries-more (ready-along c.args.path.now c.requires.0) _ _ c.loop-j.invariant (omega arith) c.in_ok-path_entry.ensures

pub returns : goal.returns
returns c = entries-end (ready-along c.args.path.now c.requires.0) _ _ c.loop-j.invariant (omega arith) (omega arith)
