-- The first k states are handed back (BodyLaws).
use Rattle.step.specs.View.{Handed}
use Rattle.step.proofs.bodies.write_states.Given as goal

abbrev pub invariant-loop-k : goal.invariant-loop-k
invariant-loop-k l = Handed l.k l.s l.fn.bodies l.bodies
