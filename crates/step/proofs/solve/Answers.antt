use Rattle.std.proofs.Common.{sym, ◌∙◌}
use Rattle.step.specs.CheckLaws.{unrefused-joined}
use Rattle.step.proofs.AnsweredLaws.{run-unrefused, answered-refused, answered-run}
use Rattle.step.proofs.FinishLaws.{solved-scratch}
use Rattle.step.proofs.solve.Goals as goal

pub returns-then-is_err : goal.returns-then-is_err
returns-then-is_err c = answered-refused _ _ _ _ _ c.refusal-outcome.ensures (sym c.is_err.ensures.value ∙ c.if-is_err.true)

pub unwrap-requires : goal.unwrap-requires
unwrap-requires c =
    c.first_chunk_mut.ensures.variant.1
    (run-unrefused _ _ _ _ _ c.refusal-outcome.ensures (sym c.is_err.ensures.value ∙ c.if-is_err.false)).room

pub solve_in-requires : goal.solve_in-requires
solve_in-requires c =
    let ready = run-unrefused _ _ _ _ _ c.refusal-outcome.ensures (sym c.is_err.ensures.value ∙ c.if-is_err.false) in
    (ready.whole, unrefused-joined ready)

pub returns : goal.returns
returns c =
    answered-run _ _ _ _ _ c.refusal-outcome.ensures (sym c.is_err.ensures.value ∙ c.if-is_err.false)
    (solved-scratch _ _ _ c.solve_in.ensures)
