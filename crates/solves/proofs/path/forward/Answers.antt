-- A row more, and the last.
use Rattle.std.proofs.Common.{arith}
use Rattle.solves.proofs.SweepLaws.{forwards-none, forwards-more, forwards-end}
use Rattle.solves.proofs.path.forward.Goals as goal

pub loop-i-init : goal.loop-i-init
loop-i-init c =
    forwards-none _ _ _ (omega arith) (omega (arith, c.args.path.now.rows.few_rows)) (λ i h. omega (arith, c.args.path.now.along i (omega arith)))

pub loop-i-preserved : goal.loop-i-preserved
loop-i-preserved c = search (forwards-more, c.forward_sum-value.ensures)

pub returns : goal.returns
returns c =
    let n = c.count-n.ensures in
    rw n at (forwards-end _ _ _ c.loop-i.invariant c.loop-i-test.false)
