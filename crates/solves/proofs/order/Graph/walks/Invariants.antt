use Rattle.solves.proofs.WalkLaws.{WalksSo}
use Rattle.solves.proofs.order.Graph.walks.Given as goal

abbrev pub invariant-loop-first : goal.invariant-loop-first
invariant-loop-first l = WalksSo l.self.blocks.now l.self.edges.now l.first l.seen
