-- A failure before the rows, at the first and at the second, and both.
use Rattle.std.proofs.Common.{arith}
use Rattle.arith.specs.FlowLaws.{then-stop}
use Rattle.rows.specs.Geometry.{align_rows}
use Rattle.rows.proofs.AppendLaws.{ours-some, begun, onward, grown, written, broken_off, lost_at_once, error-is}
use Rattle.rows.proofs.WriteLaws.{align-mine, align-first-lost, align-second-lost, align-none-lost}
use Rattle.rows.proofs.geometry.Basis.write_align.Goals as goal

pub returns-in_err-z : goal.returns-in_err-z
unfolding align_rows
returns-in_err-z c = lost_at_once (error-is c.from_residual.ensures.1) (then-stop _ c.in_err-z.ensures)

pub returns-in_err-x : goal.returns-in_err-x
returns-in_err-x c = lost_at_once (error-is c.from_residual-in_err-x.ensures.1) (align-first-lost _ _ c.in_ok-z.ensures c.in_err-x.ensures)

pub returns-in_err-y : goal.returns-in_err-y
returns-in_err-y c =
    let z = c.in_ok-z.ensures in
    let x = c.in_ok-x.ensures in
    let one = onward (begun _ _ _) c.append-one.ensures (ours-some (align-mine _ _ _ _) x) in
    broken_off one (omega (arith, grown c.append-one.ensures)) (error-is c.from_residual-in_err-y.ensures.1) (align-second-lost _ _ z x c.in_err-y.ensures)

pub returns : goal.returns
returns c =
    let z = c.in_ok-z.ensures in
    let x = c.in_ok-x.ensures in
    let y = c.in_ok-y.ensures in
    let one = onward (begun _ _ _) c.append-one.ensures (ours-some (align-mine _ _ _ _) x) in
    let two = onward one c.append.ensures (ours-some (align-mine _ _ _ _) y) in
    written two (omega (arith, grown c.append-one.ensures, grown c.append.ensures)) (align-none-lost _ _ z x y)
