-- A row's bodies come in their order: a, then b.
use Rattle.solves.proofs.joined.Rows.load.Goals as goal

pub returns : goal.returns
returns c = c.load.ensures
