use Rattle.solves.proofs.WalkLaws.{WalkSo}
use Rattle.solves.proofs.order.Graph.walk.Given as goal

abbrev pub invariant-loop-k : goal.invariant-loop-k
invariant-loop-k l = WalkSo l.self.blocks.now l.self.edges.now l.initial.seen l.first l.k l.seen l.current l.previous
