-- The first k masses stand in the table (TableLaws).
use Rattle.step.proofs.TableLaws.{Weighed}
use Rattle.step.proofs.integrator.prepare_masses.Given as goal

abbrev pub invariant-loop-k : goal.invariant-loop-k
invariant-loop-k l = Weighed l.moved l.body_count l.fn.s l.k l.s
