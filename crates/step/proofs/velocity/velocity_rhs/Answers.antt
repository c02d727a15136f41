-- A rate more, a rate that fails, and the last.
use Rattle.std.proofs.Common.{arith}
use Rattle.std.proofs.lemmas.Result.{err_from_is_err_and}
use Rattle.step.proofs.VelocityLaws.{rhs-none, row-a, row-b, motion-remembered, rhs-again, rhs-stops, rhs-ends}
use Rattle.step.proofs.velocity.velocity_rhs.Goals as goal

pub loop-k-init : goal.loop-k-init
loop-k-init c = record { made = rhs-none c.args.rows.now c.args.s.now; a = tt; b = tt }

pub motion_again-a-requires : goal.motion_again-a-requires
motion_again-a-requires c = (
  omega (arith, row-a c.args.rows.now c.args.s.now (omega arith) c.loop-k.s c.load-row.ensures, c.args.rows.now.few_bodies),
  c.loop-k.invariant.a,
)

pub motion_again-b-requires : goal.motion_again-b-requires
motion_again-b-requires c = (
  omega (arith, row-b c.args.rows.now c.args.s.now (omega arith) c.loop-k.s c.load-row.ensures, c.args.rows.now.few_bodies),
  c.loop-k.invariant.b,
)

pub returns-in_err-s : goal.returns-in_err-s
returns-in_err-s c =
    let error = err_from_is_err_and c.from_residual.result c.from_residual.ensures.1 in
    rw (error.1, error.2)
    (rhs-stops c.args.rows.now _ c.loop-k.invariant.made (omega arith) c.load-row.ensures
    (c.in_err-s.ensures _ _ c.motion_again-a.ensures.moves c.motion_again-b.ensures.moves))

pub loop-k-preserved : goal.loop-k-preserved
loop-k-preserved c = record {
  made = rhs-again c.args.rows.now _ c.loop-k.invariant.made (omega arith) c.load-row.ensures (omega arith)
      (c.in_ok-s.ensures _ _ c.motion_again-a.ensures.moves c.motion_again-b.ensures.moves);
  a = motion-remembered c.loop-k.k _ (omega (arith, c.args.rows.now.few_rows))
      (omega (arith, row-a c.args.rows.now c.args.s.now (omega arith) c.loop-k.s c.load-row.ensures, c.args.rows.now.few_bodies)) c.motion_again-a.ensures;
  b = motion-remembered c.loop-k.k _ (omega (arith, c.args.rows.now.few_rows))
      (omega (arith, row-b c.args.rows.now c.args.s.now (omega arith) c.loop-k.s c.load-row.ensures, c.args.rows.now.few_bodies)) c.motion_again-b.ensures;
}

pub returns : goal.returns
returns c = rhs-ends c.args.rows.now _ c.loop-k.invariant.made (omega arith) (omega arith)
