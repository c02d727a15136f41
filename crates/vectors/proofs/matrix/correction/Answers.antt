-- Over the numbers below `column`, by ChainLaws.
use Rattle.std.proofs.Common.{rules, arith, refl, ◌∙◌, ap}
use Rattle.std.proofs.lemmas.Iterator.{YieldsList-from_range}
use Rattle.arith.specs.Real.{◌⊕◌, ◌⊗◌}
use Rattle.arith.specs.Flow.{turns}
use Rattle.arith.specs.Laws.Constants.{zero_is}
use Rattle.vectors.specs.Matrix.{cell, correction_of}
use Rattle.arith.specs.ChainLaws.{fold-counted}
use Rattle.vectors.proofs.matrix.correction.Goals as goal

pub returns : goal.returns
unfolding correction_of
returns c =
    fold-counted (λ k sum. sum ⊕ cell c.args.lower.now c.args.row k ⊗ cell c.args.lower.now c.args.column k) c.args.column c.fold.ensures.ran
    (YieldsList-from_range 0 c.args.column c.args.column refl (omega arith)) (λ total k x q h. search rules) ∙ ap (turns _ _) zero_is
