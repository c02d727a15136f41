-- One body after the other.
use Rattle.solves.proofs.OperatorLaws.{row-then}
use Rattle.solves.proofs.operator.push_row.Goals as goal

pub returns : goal.returns
returns c n a b = row-then n c.args.row c.args.value c.args.s.now (c.push_into.ensures n a) (c.push_into-2.ensures n b)
