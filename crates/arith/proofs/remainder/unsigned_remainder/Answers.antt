-- An x below TAU is its own remainder.
use Rattle.std.proofs.lemmas.Float.{T_from_true}
use Rattle.arith.proofs.RemainderCases.{small}
use Rattle.arith.proofs.remainder.unsigned_remainder.Goals as goal

pub returns-then-x : goal.returns-then-x
returns-then-x c = small _ (search T_from_true) c.requires c.if-x.true
