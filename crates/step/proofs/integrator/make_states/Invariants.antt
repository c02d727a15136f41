-- The first k states stand where the candidates were (TableLaws).
use Rattle.step.proofs.TableLaws.{Stated}
use Rattle.step.proofs.integrator.make_states.Given as goal

abbrev pub invariant-loop-k : goal.invariant-loop-k
invariant-loop-k l = Stated l.bodies l.body_count l.fn.s l.k l.s
