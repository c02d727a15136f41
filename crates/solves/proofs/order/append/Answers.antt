-- The rows that the loop wrote, and those before and behind them.
use Rattle.std.proofs.Common.{arith}
use Rattle.solves.proofs.WalkLaws.{append-is}
use Rattle.solves.proofs.order.append.Goals as goal

pub returns : goal.returns
returns c =
    append-is c.args.rows.now c.loop-k.row-items c.args.listed c.args.block.start c.args.block.end (omega arith)
    (omega (arith, c.told-rows, c.requires.1)) (grind (arith))
    (λ j h. c.loop-k.invariant j (grind (arith)))
