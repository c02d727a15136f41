-- A failure after no row, one and two, and the rows of all three axes.
use Rattle.std.proofs.Common.{arith}
use Rattle.rows.proofs.AppendLaws.{ours, begun, onward, grown, written, broken_off, error-is}
use Rattle.rows.proofs.WriteLaws.{linear-mine, first-lost, second-lost, third-lost, none-lost}
use Rattle.rows.proofs.geometry.Basis.write_linear.Goals as goal

pub returns-in_err-x : goal.returns-in_err-x
returns-in_err-x c =
    broken_off (begun _ _ _) (omega arith) (error-is c.from_residual.ensures.1) (first-lost _ _ _ c.axes_of-locked.ensures c.in_err-x.ensures)

pub returns-in_err-y : goal.returns-in_err-y
returns-in_err-y c =
    let axes = c.axes_of-locked.ensures in
    let x = c.in_ok-x.ensures in
    let one = onward (begun _ _ _) c.append-one.ensures (ours _ _ (linear-mine _ _ _) x) in
    broken_off one (omega (arith, grown c.append-one.ensures)) (error-is c.from_residual-in_err-y.ensures.1) (second-lost _ _ _ axes x c.in_err-y.ensures)

pub returns-in_err-z : goal.returns-in_err-z
returns-in_err-z c =
    let axes = c.axes_of-locked.ensures in
    let x = c.in_ok-x.ensures in
    let y = c.in_ok-y.ensures in
    let one = onward (begun _ _ _) c.append-one.ensures (ours _ _ (linear-mine _ _ _) x) in
    let two = onward one c.append-two.ensures (ours _ _ (linear-mine _ _ _) y) in
    broken_off two (omega (arith, grown c.append-one.ensures, grown c.append-two.ensures)) (error-is c.from_residual-in_err-z.ensures.1)
    (third-lost _ _ _ axes x y c.in_err-z.ensures)

pub returns : goal.returns
returns c =
    let axes = c.axes_of-locked.ensures in
    let x = c.in_ok-x.ensures in
    let y = c.in_ok-y.ensures in
    let z = c.in_ok-z.ensures in
    let one = onward (begun _ _ _) c.append-one.ensures (ours _ _ (linear-mine _ _ _) x) in
    let two = onward one c.append-two.ensures (ours _ _ (linear-mine _ _ _) y) in
    let three = onward two c.append.ensures (ours _ _ (linear-mine _ _ _) z) in
    written three (omega (arith, grown c.append-one.ensures, grown c.append-two.ensures, grown c.append.ensures)) (none-lost _ _ _ axes x y z)
