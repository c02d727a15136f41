-- Along the two lines, by ChainLaws.
use Rattle.std.proofs.Common.{rules, arith, refl}
use Rattle.std.proofs.lemmas.Iterator.{YieldsList-from_range}
use Rattle.arith.specs.Real.{◌⊖◌, ◌⊗◌}
use Rattle.solves.specs.PathView.{line_at}
use Rattle.arith.specs.ChainLaws.{fold-counted}
use Rattle.solves.proofs.path.less_products.Goals as goal

pub returns : goal.returns
returns c =
    fold-counted (λ k value. value ⊖ line_at c.args.s.now c.args.a k ⊗ line_at c.args.s.now c.args.b k) c.args.terms c.fold.ensures.ran
    (YieldsList-from_range 0 c.args.terms c.args.terms refl (omega arith)) (λ value k x q h. search rules)
