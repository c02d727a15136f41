-- The first i rows of the band stand.
use Rattle.solves.specs.View.{count_of}
use Rattle.solves.specs.Path.{path_row}
use Rattle.solves.proofs.FactorLaws.{BandSo, band_on}
use Rattle.solves.proofs.path.path_factor.Given as goal

abbrev pub invariant-loop-i : goal.invariant-loop-i
invariant-loop-i l =
    let rows = l.path.rows in
    BandSo (count_of rows)
    (λ i band. band_on rows.a.now rows.b.now l.path.order.now rows.place (count_of rows) rows.bodies l.initial.s (λ r m o c. path_row r m o c i band))
    l.initial.s l.i l.s
