-- `path_blocks` meets its contract: turn by turn by BlockLaws `blocks_more`, and at the end by `blocks_made`.
use Rattle.std.proofs.Common.{arith}
use Rattle.solves.proofs.BlockLaws.{blocks_none, blocks_few, blocks_more, blocks_made, few-a, few_b}
use Rattle.solves.proofs.order.path_blocks.Goals as goal

pub loop-i-init : goal.loop-i-init
loop-i-init c = blocks_none _ _ _

pub note_row-number-requires : goal.note_row-number-requires
note_row-number-requires c = (blocks_few _ _ (few-a c.args.rows.now) (few_b c.args.rows.now) c.loop-i.invariant, omega (arith, c.args.rows.now.few_rows))

pub loop-i-preserved : goal.loop-i-preserved
loop-i-preserved c =
    blocks_more _ _ (few-a c.args.rows.now) (few_b c.args.rows.now) c.loop-i.invariant (omega arith) c.note_row-number.ensures

pub returns : goal.returns
returns c =
    blocks_made _ _ (few-a c.args.rows.now) (few_b c.args.rows.now) c.loop-i.invariant (omega arith) (omega arith) c.args.rows.now.few_rows
