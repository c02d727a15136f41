-- A sum along two lines, which lie in the scratch.
use Rattle.solves.proofs.SweepLaws.{backward-lie, backward-is}
use Rattle.solves.proofs.path.backward_sum.Goals as goal

pub less_products-requires : goal.less_products-requires
less_products-requires c = search backward-lie

pub returns : goal.returns
returns c = search backward-is
