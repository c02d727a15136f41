-- The axis stands on the left of what leads from anchor to anchor.
use Rattle.std.proofs.Common.{rules, ◌≡◌}
use Rattle.arith.specs.Flow.{and_then}
use Rattle.vectors.specs.Vector.{cross_of}
use Rattle.rows.specs.Geometry.{linear_row}
use Rattle.rows.proofs.UnitLaws.{rotate_is}
use Rattle.rows.proofs.geometry.Basis.linear_row.Goals as goal

pub returns-in_err-angular_a : goal.returns-in_err-angular_a
unfolding linear_row and_then
returns-in_err-angular_a c =
    let across : c.cross.result ≡ cross_of c.in_ok-axis.axis c.args.self.ends.delta = c.cross.ensures in
    search (rules, rotate_is)

pub returns-in_err-angular_b : goal.returns-in_err-angular_b
unfolding linear_row and_then
returns-in_err-angular_b c =
    let across : c.cross.result ≡ cross_of c.in_ok-axis.axis c.args.self.ends.delta = c.cross.ensures in
    search (rules, rotate_is)

pub returns : goal.returns
unfolding linear_row and_then
returns c =
    let across : c.cross.result ≡ cross_of c.in_ok-axis.axis c.args.self.ends.delta = c.cross.ensures in
    search (rules, rotate_is)
