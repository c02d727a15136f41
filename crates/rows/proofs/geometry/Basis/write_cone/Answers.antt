-- A failure before the rows and after none, one and two of them, and all three.
use Rattle.std.proofs.Common.{arith, ◌∙◌}
use Rattle.arith.specs.FlowLaws.{then-go, then-stop}
use Rattle.rows.specs.Geometry.{cone_rows}
use Rattle.rows.proofs.AppendLaws.{ours, begun, onward, grown, written, broken_off, lost_at_once, error-is}
use Rattle.rows.proofs.WriteLaws.{swing-mine, twist-mine}
use Rattle.rows.proofs.geometry.Basis.write_cone.Goals as goal

pub returns-in_err-r : goal.returns-in_err-r
unfolding cone_rows
returns-in_err-r c = lost_at_once (error-is c.from_residual.ensures.1) (then-stop _ c.in_err-r.ensures)

pub returns-in_err-x : goal.returns-in_err-x
unfolding cone_rows
returns-in_err-x c =
    let x = rw c.swing_x.ensures at c.in_err-x.ensures in
    lost_at_once (error-is c.from_residual-in_err-x.ensures.1) (then-stop _ x ∙ then-go _ c.in_ok-r.ensures)

pub returns-in_err-y : goal.returns-in_err-y
unfolding cone_rows
returns-in_err-y c =
    let x = rw c.swing_x.ensures at c.in_ok-x.ensures in
    let y = rw c.swing_y.ensures at c.in_err-y.ensures in
    let one = onward (begun _ _ _) c.append-one.ensures (ours _ _ (swing-mine _ _ _ _) x) in
    broken_off one (omega (arith, grown c.append-one.ensures)) (error-is c.from_residual-in_err-y.ensures.1)
    (then-stop _ y ∙ then-go _ x ∙ then-go _ c.in_ok-r.ensures)

pub returns-in_err-twist : goal.returns-in_err-twist
unfolding cone_rows
returns-in_err-twist c =
    let x = rw c.swing_x.ensures at c.in_ok-x.ensures in
    let y = rw c.swing_y.ensures at c.in_ok-y.ensures in
    let one = onward (begun _ _ _) c.append-one.ensures (ours _ _ (swing-mine _ _ _ _) x) in
    let two = onward one c.append-two.ensures (ours _ _ (swing-mine _ _ _ _) y) in
    broken_off two (omega (arith, grown c.append-one.ensures, grown c.append-two.ensures)) (error-is c.from_residual-in_err-twist.ensures.1)
    (then-stop _ c.in_err-twist.ensures ∙ then-go _ y ∙ then-go _ x ∙ then-go _ c.in_ok-r.ensures)

pub returns : goal.returns
unfolding cone_rows
returns c =
    let x = rw c.swing_x.ensures at c.in_ok-x.ensures in
    let y = rw c.swing_y.ensures at c.in_ok-y.ensures in
    let twist = c.in_ok-twist.ensures in
    let one = onward (begun _ _ _) c.append-one.ensures (ours _ _ (swing-mine _ _ _ _) x) in
    let two = onward one c.append-two.ensures (ours _ _ (swing-mine _ _ _ _) y) in
    let three = onward two c.append.ensures (ours _ _ (twist-mine _ _ _ _) twist) in
    written three (omega (arith, grown c.append-one.ensures, grown c.append-two.ensures, grown c.append.ensures))
    (then-go _ twist ∙ then-go _ y ∙ then-go _ x ∙ then-go _ c.in_ok-r.ensures)
