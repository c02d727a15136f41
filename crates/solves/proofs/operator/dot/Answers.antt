-- The sum of products, if it is finite.
use Rattle.solves.proofs.OperatorLaws.{dot-is}
use Rattle.solves.proofs.operator.dot.Goals as goal

pub returns : goal.returns
returns c = search dot-is
