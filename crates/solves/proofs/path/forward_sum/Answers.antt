-- A sum along two lines, which lie in the scratch.
use Rattle.solves.proofs.SweepLaws.{forward-lie, forward-is}
use Rattle.solves.proofs.path.forward_sum.Goals as goal

pub less_products-requires : goal.less_products-requires
less_products-requires c = search forward-lie

pub returns : goal.returns
returns c n there = search forward-is
