-- `joints_from`: before turn k the table has the first k joints.
use Rattle.std.proofs.Common.{◌≡◌, get_or}
use Rattle.arith.specs.Flow.{turns}
use Rattle.plan.specs.Noting.{joint_turn}
use Rattle.plan.proofs.reader.joints_from.Given as goal

abbrev pub invariant-loop-k : goal.invariant-loop-k
invariant-loop-k l = l.joints ≡ turns (λ k. joint_turn l.file k (get_or l.fn.places.bytes k 0)) l.k l.initial.joints
