-- The share of one body, pushed and stored.
use Rattle.solves.proofs.OperatorLaws.{into-done}
use Rattle.solves.proofs.operator.push_into.Goals as goal

pub returns : goal.returns
returns c n there = search into-done
