-- The impulses of all rows.
use Rattle.std.proofs.Common.{arith}
use Rattle.solves.specs.DoesLaws.{does-more}
use Rattle.step.proofs.integrator.NonlinearStageApply.apply.Goals as goal

pub returns : goal.returns
returns c = does-more (λ i x. omega (arith, x.1)) (rw c.count.ensures at c.add_impulses.ensures)
