-- `new` meets its contract: no row is listed, and each place of the table is 0.
use Rattle.std.proofs.Common.{ℕ, refl}
use Rattle.std.proofs.lemmas.List.{get_or-replicate}
use Rattle.arith.specs.Flow.{tab}
use Rattle.solves.proofs.order.Seen.new.Goals as goal

pub invariant_of-result-clause-blank : goal.invariant_of-result-clause-blank
invariant_of-result-clause-blank c = λ i h m. get_or-replicate {A = ℕ} 96 i 0 0 m

pub returns : goal.returns
unfolding tab
returns c = refl
