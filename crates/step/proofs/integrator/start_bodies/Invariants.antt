-- The first k bodies stand in the table (TableLaws).
use Rattle.step.proofs.TableLaws.{Begun}
use Rattle.step.proofs.integrator.start_bodies.Given as goal

abbrev pub invariant-loop-k : goal.invariant-loop-k
invariant-loop-k l = Begun l.bodies l.body_count l.fn.s l.k l.s
