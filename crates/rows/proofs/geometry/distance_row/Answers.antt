-- The value is the distance less the rod.
use Rattle.std.proofs.Common.{rules, ◌≡◌}
use Rattle.arith.specs.Flow.{go, and_then}
use Rattle.rows.specs.Words.{◌⊖◌}
use Rattle.rows.specs.Geometry.{distance_row, row_with}
use Rattle.rows.proofs.geometry.distance_row.Goals as goal

pub returns : goal.returns
unfolding distance_row and_then
returns c =
    let value = c.in_ok-distance.distance ⊖ c.args.rod in
    let row = row_with c.args.joint c.neg.result c.neg-2.result c.in_ok-axis.axis c.cross-2.result value c.in_ok-tolerance.tolerance in
    let found : go row ≡ distance_row c.args.joint c.args.e c.args.rod = search rules in
    found
