use Rattle.std.proofs.Common.{rules}
use Rattle.std.proofs.lemmas.Iterator.{YieldsList-from_slice}
use Rattle.step.specs.Checks.{joins_two}
use Rattle.arith.specs.ChainLaws.{every-listed}
use Rattle.step.proofs.checks.joints_join.Goals as goal

pub returns : goal.returns
returns c =
    every-listed _ (joins_two c.args.body_count) _ c.args.joints.now c.all.ensures.ran (YieldsList-from_slice c.args.joints.now cc) (λ x b q h. search rules)
