-- The angular velocity so far is the definition's after so many passes.
use Rattle.std.proofs.Common.{◌≡◌}
use Rattle.arith.specs.Flow.{go, loop}
use Rattle.rows.specs.Body.{pass_of}
use Rattle.rows.proofs.body.Oriented.settle.Given as goal

abbrev pub invariant-loop : goal.invariant-loop
invariant-loop l = go l.omega ≡ loop l.counter (λ k. pass_of l.self.body l.dt) l.fn.start
