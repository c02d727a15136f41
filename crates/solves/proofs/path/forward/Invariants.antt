-- The right side of the first i rows stands.
use Rattle.solves.proofs.SweepLaws.{ForwardSo}
use Rattle.solves.proofs.path.forward.Given as goal

abbrev pub invariant-loop-i : goal.invariant-loop-i
invariant-loop-i l = ForwardSo l.n l.path.order.now l.fn.s l.i l.s
