-- The root is rounded up, or stays.
use Rattle.arith.specs.Laws.RootHalves.{halves, near_up, near-stay}
use Rattle.arith.proofs.root.nearest_root.Goals as goal

pub returns-then-t-q : goal.returns-then-t-q
returns-then-t-q c =
    near_up _ _ (halves _ _ c.requires.0 c.requires.1 c.whole_root-s.ensures.0 c.whole_root-s.ensures.1) c.if-t-q.true

pub returns-else-t-q : goal.returns-else-t-q
returns-else-t-q c =
    near-stay _ _ (halves _ _ c.requires.0 c.requires.1 c.whole_root-s.ensures.0 c.whole_root-s.ensures.1) c.if-t-q.false
