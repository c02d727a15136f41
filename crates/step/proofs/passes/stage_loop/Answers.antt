-- One pass more, the end by a pass, and the last pass (PassLaws).
use Rattle.std.proofs.Common.{arith}
use Rattle.std.proofs.lemmas.Result.{err_from_is_err_and}
use Rattle.step.proofs.PassLaws.{loop-none, loop-spent, loop-again, loop-over, loop-fails}
use Rattle.step.proofs.passes.stage_loop.Goals as goal

pub loop-init : goal.loop-init
loop-init g c = loop-none _ _ _ _ _ _

pub pass-requires : goal.pass-requires
pass-requires g c =
    let inv = c.loop.invariant in (
      c.requires.0,
      omega (arith, inv.nonlinear-is, inv.few.0, c.requires.1, c.requires.2),
      omega (arith, inv.linear-is, inv.few.1, c.requires.1, c.requires.3),
    )

pub loop-preserved : goal.loop-preserved
loop-preserved g c = loop-again _ _ _ _ _ _ (g.met.S.Stage.apart _ _ c.requires.0) c.loop.invariant (omega arith)
    (rw c.in_default.is at c.in_ok-pass.ensures)

pub returns-in_err-pass : goal.returns-in_err-pass
returns-in_err-pass g c =
    let error = err_from_is_err_and c.from_residual.result c.from_residual.ensures.1 in
    rw (error.1, error.2)
    (loop-fails _ _ _ _ _ _ (g.met.S.Stage.apart _ _ c.requires.0) c.loop.invariant (omega arith) c.in_err-pass.ensures)

pub returns-in-Break : goal.returns-in-Break
returns-in-Break g c = loop-over _ _ _ _ _ _ (g.met.S.Stage.apart _ _ c.requires.0) c.loop.invariant (omega arith)
    (rw c.in-Break.is at c.in_ok-pass.ensures)

pub returns : goal.returns
returns g c = loop-spent _ _ _ _ _ _ c.loop.invariant (omega arith) (omega arith)
