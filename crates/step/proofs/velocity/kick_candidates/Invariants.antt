-- The first k candidates are kicked (VelocityLaws).
use Rattle.step.proofs.VelocityLaws.{Kicked}
use Rattle.step.proofs.velocity.kick_candidates.Given as goal

abbrev pub invariant-loop-k : goal.invariant-loop-k
invariant-loop-k l = Kicked l.fn.s l.body_count l.k l.s
