-- The rates of the first k rows are made, and both kept motions are those of the candidates that they name.
use Rattle.step.specs.RunView.{Remembers}
use Rattle.step.proofs.VelocityLaws.{Opposed}
use Rattle.step.proofs.velocity.velocity_rhs.Given as goal

abbrev pub invariant-loop-k : goal.invariant-loop-k
invariant-loop-k l = record {
  made : Opposed l.rows l.fn.s l.k l.s;
  a : Remembers l.s l.last_a;
  b : Remembers l.s l.last_b;
}
