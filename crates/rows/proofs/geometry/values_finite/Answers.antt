use Rattle.std.proofs.Common.{rules, arith, refl, ◌∙◌}
use Rattle.std.proofs.lemmas.Iterator.{YieldsList-from_range}
use Rattle.std.proofs.lemmas.Iterator.Search.{all_from_yields_List}
use Rattle.rows.proofs.FiniteLaws.{finite_at, finite-is}
use Rattle.rows.proofs.geometry.values_finite.Goals as goal

pub returns : goal.returns
returns c = λ a b.
    let counts = YieldsList-from_range 0 c.args.count c.args.count refl (omega arith) in
    all_from_yields_List (finite_at c.args.s.now c.args.at) _ _ _ c.all.ensures.ran counts (λ k d q h. search rules)
    ∙ finite-is c.args.s.now c.args.at c.args.count a b
