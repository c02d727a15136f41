-- The entry of the two rows that were loaded.
use Rattle.solves.proofs.SearchLaws.{ready-along}
use Rattle.solves.proofs.FactorLaws.{cross_at}
use Rattle.solves.proofs.path.cross_at.Goals as goal

pub returns : goal.returns
returns c = cross_at (ready-along c.args.path.now c.requires.0) _ _ c.requires.1 c.requires.2 c.load-a.ensures c.load-b.ensures c.cross_mass.ensures
