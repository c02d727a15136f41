use Rattle.solves.proofs.BlockLaws.{EdgesSo}
use Rattle.solves.proofs.order.path_edges.Given as goal

abbrev pub invariant-loop-k : goal.invariant-loop-k
invariant-loop-k l = EdgesSo l.blocks l.k l.edges
