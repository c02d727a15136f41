use Rattle.std.proofs.Common.{rules, arith, refl, ◌∙◌, ℕ, Bool}
use Rattle.std.proofs.lemmas.Iterator.{YieldsList-from_range}
use Rattle.arith.specs.Literals.{literals}
use Rattle.step.proofs.VelocityLaws.{small_at, compatible-is}
use Rattle.arith.specs.ChainLaws.{every-counted}
use Rattle.step.proofs.velocity.compatible.Goals as goal

pub returns : goal.returns
returns c =
    let test : ℕ → Bool = small_at c.args.s.now c.args.n in
    every-counted _ test c.args.n c.all.ensures.ran (YieldsList-from_range 0 c.args.n c.args.n refl (omega arith)) (λ k b q h. search (rules, literals))
    ∙ compatible-is c.args.s.now c.args.n
