-- The first k candidates stand in the table (TableLaws).
use Rattle.step.proofs.TableLaws.{Moved}
use Rattle.step.proofs.integrator.move_bodies.Given as goal

abbrev pub invariant-loop-k : goal.invariant-loop-k
invariant-loop-k l = Moved l.dt l.body_count l.fn.s l.k l.s
