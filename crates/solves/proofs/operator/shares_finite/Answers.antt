-- Each share where it stands, by ChainLaws.
use Rattle.std.proofs.Common.{rules, arith, refl, ◌∙◌, ℕ, Bool}
use Rattle.std.proofs.lemmas.Iterator.{YieldsList-from_range}
use Rattle.arith.specs.ChainLaws.{every-counted}
use Rattle.solves.proofs.OperatorLaws.{share_test, shares-are}
use Rattle.solves.proofs.operator.shares_finite.Goals as goal

pub returns : goal.returns
returns c =
    let test : ℕ → Bool = share_test c.args.s.now in
    let n : ℕ = c.args.body_count in
    every-counted _ test n c.all.ensures.ran (YieldsList-from_range 0 n n refl (omega arith)) (λ k b q h. search rules) ∙ shares-are c.args.s.now n
