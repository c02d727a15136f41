use Rattle.std.proofs.Common.{rules, arith, refl, ℕ, Bool}
use Rattle.std.proofs.lemmas.Iterator.{YieldsList-from_range}
use Rattle.step.specs.Records.{record_at, count_of_bodies}
use Rattle.step.specs.Checks.{body_in_range}
use Rattle.arith.specs.ChainLaws.{every-counted}
use Rattle.step.proofs.checks.bodies_in_range.Goals as goal

pub returns : goal.returns
returns c =
    let test : ℕ → Bool = λ k. body_in_range (record_at c.args.bodies.now k) in
    let n : ℕ = count_of_bodies c.args.bodies.now in
    every-counted _ test n c.all.ensures.ran (YieldsList-from_range 0 n n refl (omega arith)) (λ k b q h. search rules)
