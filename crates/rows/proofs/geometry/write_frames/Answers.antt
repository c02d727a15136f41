-- A failure of what every row wants is the first row's; then of the linear rows, of those on rotations, and of the test of their values.
use Rattle.std.specs.Prelude.{Err}
use Rattle.std.proofs.Common.{sym, ap, ◌∙◌}
use Rattle.arith.specs.Flow.{stop}
use Rattle.rows.specs.Geometry.{frame_rows}
use Rattle.rows.proofs.AppendLaws.{lost_at_once, error-is}
use Rattle.rows.proofs.WriteLaws.{over-tolerance, no-unit, long-row, unturned-row, frames_early, along-lost, behind-lost, both-finite, both-endless}
use Rattle.rows.proofs.geometry.write_frames.Goals as goal

pub returns-in_err-tolerance : goal.returns-in_err-tolerance
returns-in_err-tolerance c =
    let lost = c.in_err-tolerance.ensures in
    let over = (over-tolerance _ _).only _ lost in
    lost_at_once (error-is c.from_residual.ensures.1 ∙ ap Err over) (frames_early _ _ (long-row _ _ (sym (ap stop over) ∙ lost)) _ _)

pub returns-in_err-unit : goal.returns-in_err-unit
returns-in_err-unit c =
    let none = no-unit _ c.in_err-unit.ensures in
    lost_at_once (error-is c.from_residual-in_err-unit.ensures.1 ∙ ap Err none.1) (frames_early _ _ (unturned-row _ _ none.0) _ _)

pub returns-in_err-along : goal.returns-in_err-along
unfolding frame_rows
returns-in_err-along c = along-lost _ _ c.in_err-along.ensures (error-is c.from_residual-in_err-along.ensures.1)

pub returns-in_err-count : goal.returns-in_err-count
unfolding frame_rows
returns-in_err-count c = behind-lost _ c.in_ok-along.ensures c.in_err-count.ensures (error-is c.from_residual-in_err-count.ensures.1)

pub returns-then-not-values_finite : goal.returns-then-not-values_finite
unfolding frame_rows
returns-then-not-values_finite c =
    both-endless c.in_ok-along.ensures c.in_ok-count.ensures (c.values_finite.ensures _ _) c.if-not-values_finite.true

pub returns : goal.returns
unfolding frame_rows
returns c = both-finite c.in_ok-along.ensures c.in_ok-count.ensures (c.values_finite.ensures _ _) c.if-not-values_finite.false
