-- A row more, from the last, and the first.
use Rattle.std.proofs.Common.{arith}
use Rattle.solves.proofs.SweepLaws.{backwards-none, backwards-more, backwards-end}
use Rattle.solves.proofs.path.backward.Goals as goal

pub loop-i-init : goal.loop-i-init
loop-i-init c =
    backwards-none _ _ _ (omega arith) (omega (arith, c.args.path.now.rows.few_rows)) (λ i h. omega (arith, c.args.path.now.along i (omega arith)))

pub loop-i-preserved : goal.loop-i-preserved
loop-i-preserved c = search backwards-more

pub returns : goal.returns
returns c =
    let n = c.count-n.ensures in
    rw n at (backwards-end _ _ _ c.loop-i.invariant c.loop-i-test.false)
