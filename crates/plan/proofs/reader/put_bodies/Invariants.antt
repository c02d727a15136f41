-- `put_bodies`: before turn k the table has the first k bodies.
use Rattle.std.proofs.Common.{◌≡◌, get_or}
use Rattle.arith.specs.Flow.{turns}
use Rattle.plan.specs.Noting.{body_turn}
use Rattle.plan.proofs.reader.put_bodies.Given as goal

abbrev pub invariant-loop-k : goal.invariant-loop-k
invariant-loop-k l = l.table ≡ turns (λ k. body_turn l.file k (get_or l.fn.places.bytes k 0)) l.k l.initial.table
