-- The entries of the row before column j stand.
use Rattle.std.proofs.Common.{◌+◌, ◌-◌}
use Rattle.solves.specs.View.{count_of}
use Rattle.solves.specs.Path.{path_entry}
use Rattle.solves.proofs.FactorLaws.{BandSo, band_on}
use Rattle.solves.proofs.path.path_row.Given as goal

abbrev pub invariant-loop-j : goal.invariant-loop-j
invariant-loop-j l =
    let rows = l.path.rows in
    BandSo (count_of rows)
    (λ k band. band_on rows.a.now rows.b.now l.path.order.now rows.place (count_of rows) rows.bodies l.fn.s
    (λ r m o c. path_entry r m o c l.i (l.i - 11 + k) band))
    l.fn.s (l.j - (l.i - 11)) l.s
