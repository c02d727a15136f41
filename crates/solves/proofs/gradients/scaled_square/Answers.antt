-- Over the two vectors, by SumLaws.
use Rattle.std.proofs.Common.{rules, arith, ◌∙◌, ap, ◌+◌}
use Rattle.std.proofs.lemmas.Iterator.{YieldsList-from_zip, YieldsList-from_slice}
use Rattle.arith.specs.Real.{◌⊕◌, ◌⊗◌, ◌⊘◌}
use Rattle.arith.specs.Flow.{turns}
use Rattle.arith.specs.Laws.Constants.{zero_is}
use Rattle.rows.specs.View.{at}
use Rattle.rows.specs.Region.{tab-length}
use Rattle.solves.specs.Solver.{scaled_square}
use Rattle.solves.specs.View.{RESIDUAL, DIAGONAL}
use Rattle.solves.proofs.SumLaws.{fold-vectors, slice_vec}
use Rattle.solves.proofs.gradients.scaled_square.Goals as goal

pub returns : goal.returns
unfolding scaled_square
returns c = rw (tab-length c.args.n (λ k. at c.args.s.now (RESIDUAL + k)))
    (fold-vectors (λ total r d. total ⊕ r ⊗ r ⊘ d) c.args.s.now RESIDUAL DIAGONAL c.args.n c.fold.ensures.ran
    (YieldsList-from_zip (YieldsList-from_slice _ (search (rules, slice_vec c.args.s.now RESIDUAL c.args.n (omega arith))))
    (YieldsList-from_slice _ (search (rules, slice_vec c.args.s.now DIAGONAL c.args.n (omega arith)))))
    (λ total p x q h. search rules) ∙ ap (turns _ _) zero_is)
