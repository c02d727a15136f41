-- `walk` meets its contract: turn by turn by WalkLaws `walk_more`; a turn that ends the walk by `walk-met` or `walk_ends`.
use Rattle.solves.proofs.WalkLaws.{walk_none, walk-met, visit-fits, walk_ends, walk_more, walk-spent}
use Rattle.solves.proofs.order.Graph.walk.Goals as goal

pub loop-k-init : goal.loop-k-init
loop-k-init c = walk_none c.requires.0 c.requires.1

pub returns-then-seen-current : goal.returns-then-seen-current
returns-then-seen-current c = walk-met c.loop-k.invariant c.loop-k-test.true c.if-seen-current.true

pub visit-requires : goal.visit-requires
visit-requires c = visit-fits c.args.self.now.sound.blocked c.loop-k.invariant.here c.loop-k.invariant.free c.if-seen-current.false

pub returns-in_default : goal.returns-in_default
returns-in_default c = walk_ends c.loop-k.invariant c.loop-k-test.true c.args.self.now.sound.blocked c.if-seen-current.false _ c.visit.ensures
    c.next.ensures c.in_default.is

pub loop-k-preserved : goal.loop-k-preserved
loop-k-preserved c = walk_more c.loop-k.invariant c.loop-k-test.true c.args.self.now.sound.blocked c.if-seen-current.false _ c.visit.ensures c.next.ensures
    c.args.self.now.sound c.in-Some.is

pub returns : goal.returns
returns c = walk-spent c.loop-k.invariant c.loop-k.auto.k-end c.loop-k-test.false
