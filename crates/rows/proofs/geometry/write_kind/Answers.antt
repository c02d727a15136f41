-- No ends, a rod, and a frame.
use Rattle.std.proofs.Common.{arith, sym, ◌∙◌}
use Rattle.arith.specs.FlowLaws.{then-go, then-stop}
use Rattle.rows.specs.Geometry.{write_equality_rows}
use Rattle.rows.proofs.AppendLaws.{ours-some, begun, onward, grown, written, lost_at_once, error-is}
use Rattle.rows.proofs.WriteLaws.{distance-mine, adds-as, by_motions}
use Rattle.rows.proofs.geometry.write_kind.Goals as goal

pub returns-in_err-ends : goal.returns-in_err-ends
unfolding write_equality_rows
returns-in_err-ends c = lost_at_once (error-is c.from_residual.ensures.1) (then-stop _ c.in_err-ends.ensures)

pub returns-in_err-row-in-Rod : goal.returns-in_err-row-in-Rod
returns-in_err-row-in-Rod c =
    let kind = by_motions _ _ _ c.in_ok-ends.ensures (sym c.in-Rod.ensures) in
    lost_at_once (error-is c.from_residual-in_err-row-in-Rod.ensures.1) (then-stop _ c.in_err-row-in-Rod.ensures ∙ kind)

pub returns-in_ok-row-in-Rod : goal.returns-in_ok-row-in-Rod
returns-in_ok-row-in-Rod c =
    let kind = by_motions _ _ _ c.in_ok-ends.ensures (sym c.in-Rod.ensures) in
    let row = c.in_ok-row-in-Rod.ensures in
    let one = onward (begun _ _ _) c.append.ensures (ours-some (distance-mine _ _ _) row) in
    written one (omega (arith, grown c.append.ensures)) (then-go _ row ∙ kind)

pub returns-in-Frame : goal.returns-in-Frame
returns-in-Frame c = adds-as (omega arith) (by_motions _ _ _ c.in_ok-ends.ensures (sym c.in-Frame.ensures)) c.write_frames.ensures
