-- What is copied is the vector itself.
use Rattle.std.proofs.Common.{sym, rules}
use Rattle.solves.specs.DoesLaws.{does-is}
use Rattle.solves.proofs.VectorLaws.{vec-tab}
use Rattle.solves.proofs.values.copy.Goals as goal

pub returns : goal.returns
returns c = does-is (c.combine.ensures (λ p q. p) (λ p q r e. search rules)) (sym vec-tab)
