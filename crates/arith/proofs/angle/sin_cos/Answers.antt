-- Below 0, from 0 to 4, and no such angle.
use Rattle.std.specs.Prelude.{Ok}
use Rattle.std.specs.Float.Ieee.{of_bits, round}
use Rattle.std.proofs.Common.{ap, ◌∙◌}
use Rattle.arith.specs.Angle.{sin_cos_of}
use Rattle.arith.specs.FlowLaws.{cond_yes, cond_no}
use Rattle.arith.proofs.Ways.{sin_cos_answered}
use Rattle.arith.proofs.angle.sin_cos.Goals as goal

pub returns-then-h : goal.returns-then-h
unfolding of_bits round sin_cos_of
returns-then-h c = sin_cos_answered (cond_yes _ _ c.if-h.true)

pub returns-then-h-2 : goal.returns-then-h-2
unfolding of_bits round sin_cos_of
returns-then-h-2 c = sin_cos_answered (ap Ok c.halved.ensures ∙ cond_yes _ _ c.if-h-2.true ∙ cond_no _ _ c.if-h.false)

pub returns : goal.returns
unfolding of_bits round sin_cos_of
returns c = sin_cos_answered (cond_no _ _ c.if-h-2.false ∙ cond_no _ _ c.if-h.false)
