-- An even and an odd power of 2, each by its law.
use Rattle.arith.specs.Laws.RootBits.{join-even, join-odd}
use Rattle.arith.proofs.root.join.Goals as goal

pub returns-then-h-eq0 : goal.returns-then-h-eq0
returns-then-h-eq0 c =
    join-even _ _ _ c.requires.0 c.requires.1 c.requires.2 c.requires.3 c.if-h-eq0.true c.nearest_root.ensures

pub returns-else-h-eq0 : goal.returns-else-h-eq0
returns-else-h-eq0 c =
    join-odd _ _ _ c.requires.0 c.requires.1 c.requires.2 c.requires.3 c.if-h-eq0.false c.nearest_root-else-h-eq0.ensures
