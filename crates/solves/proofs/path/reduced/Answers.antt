-- A sum along two lines, which lie in the scratch.
use Rattle.solves.proofs.SweepLaws.{reduced-lie, reduced-is}
use Rattle.solves.proofs.path.reduced.Goals as goal

pub less_products-requires : goal.less_products-requires
less_products-requires c = search reduced-lie

pub returns : goal.returns
returns c n there = search reduced-is
