use Rattle.std.proofs.Common.{rules}
use Rattle.std.proofs.lemmas.Iterator.{YieldsList-from_slice}
use Rattle.arith.specs.Real.{is_finite}
use Rattle.arith.specs.ChainLaws.{every-listed}
use Rattle.step.proofs.checks.all_finite.Goals as goal

pub returns : goal.returns
returns c =
    every-listed _ is_finite _ c.args.bodies.now c.all.ensures.ran (YieldsList-from_slice c.args.bodies.now cc) (λ x b q h. search rules)
