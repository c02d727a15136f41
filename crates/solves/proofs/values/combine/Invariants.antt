-- The first k doubles are what f makes of those of a and b.
use Rattle.std.proofs.Common.{◌≡◌}
use lib.Ieee.{Float}
use Rattle.solves.proofs.VectorLaws.{Sofar}
use Rattle.solves.proofs.values.combine.Given as goal

abbrev pub invariant-loop-k : goal.invariant-loop-k
invariant-loop-k g l =
    (h : Float → Float → Float) → ((p q r : Float) → goal.F-post g l.fn.f p q r → r ≡ h p q) → Sofar h l.x l.a l.b l.n l.fn.s l.k l.s
