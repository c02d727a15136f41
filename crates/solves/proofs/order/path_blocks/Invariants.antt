use Rattle.solves.specs.View.{side_a, side_b}
use Rattle.solves.proofs.BlockLaws.{BlocksAt}
use Rattle.solves.proofs.order.path_blocks.Given as goal

abbrev pub invariant-loop-i : goal.invariant-loop-i
invariant-loop-i l = BlocksAt (side_a l.rows) (side_b l.rows) l.i l.blocks l.number
