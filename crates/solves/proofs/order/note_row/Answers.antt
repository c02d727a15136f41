-- `note_row` where row i ends the last block: by BlockLaws `row_ends`. The rest the check finds.
use Rattle.std.proofs.Common.{arith}
use Rattle.solves.proofs.BlockLaws.{row_ends}
use Rattle.solves.proofs.order.note_row.Goals as goal

pub returns-then-blocks-number-2 : goal.returns-then-blocks-number-2
returns-then-blocks-number-2 c =
    row_ends c.args.blocks.now c.args.i c.if-number-gt0.true (omega arith) c.if-blocks-number.true c.if-blocks-number-2.true
