use Rattle.std.proofs.Common.{refl, arith}
use Rattle.step.proofs.FinishLaws.{all-zero, solved-in}
use Rattle.step.proofs.solve_in.Goals as goal

pub returns : goal.returns
returns c =
    solved-in _ c.run-ran.result _ refl refl c.run-ran.ensures c.conclude-outcome.ensures
    (all-zero (omega arith) c.clear.ensures)
