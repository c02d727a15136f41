-- `visit` meets its contract: by what `append` says of the order.
use Rattle.std.proofs.Common.{◌∙◌, true, length-set, arith}
use Rattle.solves.proofs.WalkLaws.{visit-is}
use Rattle.solves.proofs.order.Seen.visit.Goals as goal

pub invariant_of-self-clause-whole : goal.invariant_of-self-clause-whole
invariant_of-self-clause-whole c =
    (c.append-self.ensures.size ∙ c.args.self.now.whole.0, length-set c.args.self.now.visited c.args.k true ∙ c.args.self.now.whole.1)

pub invariant_of-self-clause-blank : goal.invariant_of-self-clause-blank
invariant_of-self-clause-blank c = λ i h m. c.append-self.ensures.rest i h ∙ c.args.self.now.blank i (omega (arith, c.append-self.ensures.longer)) m

pub returns : goal.returns
returns c = visit-is c.args.self.now _ c.args.block c.append-self.ensures
