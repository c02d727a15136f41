-- A law for each way that an entry ends.
use Rattle.std.proofs.lemmas.Result.{err_from_is_err_and}
use Rattle.arith.specs.Laws.Constants.{zero_is}
use Rattle.solves.proofs.SearchLaws.{ready-along}
use Rattle.solves.proofs.FactorLaws.{entry-lost, entry-wild, entry-low, entry-pivot, entry-side}
use Rattle.solves.proofs.path.path_entry.Goals as goal
use Rattle.solves.proofs.path.path_entry.Goals.{then-not-is_finite-via-then-not-is_finite, then-not-is_finite-via-else-not-is_finite+then-value}

pub returns-in_err-entry : goal.returns-in_err-entry
returns-in_err-entry c =
    let error = err_from_is_err_and c.from_residual.result c.from_residual.ensures.1 in
    rw (error.1, error.2)
    (entry-lost (ready-along c.args.path.now c.requires.0, c.requires.1, c.requires.2, c.requires.3) c.in_err-entry.ensures)

pub returns-then-not-is_finite : goal.returns-then-not-is_finite
returns-then-not-is_finite c = elim c.then-not-is_finite.branch [
  | then-not-is_finite-via-then-not-is_finite w ↦
      entry-wild (ready-along c.args.path.now c.requires.0, c.requires.1, c.requires.2, c.requires.3) c.in_ok-entry.ensures
      (c.reduced-value.ensures _ c.requires.1)
      c.if-j-i.true c.is_finite.ensures zero_is w.if-not-is_finite.true
  | then-not-is_finite-via-else-not-is_finite+then-value w ↦
      entry-low (ready-along c.args.path.now c.requires.0, c.requires.1, c.requires.2, c.requires.3) c.in_ok-entry.ensures
      (c.reduced-value.ensures _ c.requires.1)
      c.if-j-i.true c.is_finite.ensures zero_is w.if-not-is_finite.false w.if-value.true
]

pub returns-else-value : goal.returns-else-value
returns-else-value c =
    entry-pivot (ready-along c.args.path.now c.requires.0, c.requires.1, c.requires.2, c.requires.3) c.in_ok-entry.ensures
    (c.reduced-value.ensures _ c.requires.1)
    c.if-j-i.true c.is_finite.ensures zero_is c.if-not-is_finite.false c.if-value.false c.sqrt.ensures.is

pub returns-else-j-i : goal.returns-else-j-i
returns-else-j-i c =
    entry-side (ready-along c.args.path.now c.requires.0, c.requires.1, c.requires.2, c.requires.3) c.in_ok-entry.ensures
    (c.reduced-value.ensures _ c.requires.1) c.if-j-i.false
