-- The solution of the rows from i on stands.
use Rattle.solves.proofs.SweepLaws.{BackwardSo}
use Rattle.solves.proofs.path.backward.Given as goal

abbrev pub invariant-loop-i : goal.invariant-loop-i
invariant-loop-i l = BackwardSo l.n l.path.order.now l.fn.s l.i l.s
