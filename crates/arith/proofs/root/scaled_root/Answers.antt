-- An a of 0 is left to the check.
use Rattle.std.specs.Prelude.{Float}
use Rattle.std.specs.Float.Ieee.{of_bits, round}
use Rattle.std.proofs.Common.{ap, ◌∙◌}
use Rattle.arith.specs.Real.{◌⊗◌}
use Rattle.arith.specs.Hypot.{scaled_root}
use Rattle.arith.specs.FlowLaws.{cond_no}
use Rattle.arith.proofs.root.scaled_root.Goals as goal

pub returns : goal.returns
unfolding of_bits round scaled_root
returns c = ap (λ (s : Float). c.args.a ⊗ s) c.root_near_one.ensures ∙ cond_no _ _ c.if-a.false
