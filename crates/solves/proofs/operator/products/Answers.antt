-- Over the two vectors, by SumLaws.
use Rattle.std.proofs.Common.{rules, ◌∙◌, ap}
use Rattle.std.proofs.lemmas.Iterator.{YieldsList-from_zip, YieldsList-from_slice}
use Rattle.arith.specs.Real.{◌⊕◌, ◌⊗◌}
use Rattle.arith.specs.Flow.{turns}
use Rattle.arith.specs.Laws.Constants.{zero_is}
use Rattle.solves.proofs.SumLaws.{fold-vectors, slice_vec}
use Rattle.solves.proofs.operator.products.Goals as goal

pub returns : goal.returns
returns c =
    fold-vectors (λ total x y. total ⊕ x ⊗ y) c.args.s.now c.args.a c.args.b c.args.n c.fold.ensures.ran
    (YieldsList-from_zip (YieldsList-from_slice _ (search (rules, slice_vec))) (YieldsList-from_slice _ (search (rules, slice_vec))))
    (λ total p x q h. search rules) ∙ ap (turns _ _) zero_is
