-- The first k sums stand in their places (TableLaws).
use Rattle.step.proofs.TableLaws.{Summed}
use Rattle.step.proofs.integrator.add_impulses.Given as goal

abbrev pub invariant-loop-k : goal.invariant-loop-k
invariant-loop-k l = Summed l.n l.fn.s l.k l.s
