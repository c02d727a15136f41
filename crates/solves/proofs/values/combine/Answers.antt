-- A double more, and the last.
use Rattle.solves.proofs.VectorLaws.{two_none, two-more, two_is}
use Rattle.solves.proofs.values.combine.Goals as goal

pub loop-k-init : goal.loop-k-init
loop-k-init g c =
    λ h e. let places = c.requires.places in two_none places.0.0 places.0.1 places.0.3 places.1.3

pub loop-k-preserved : goal.loop-k-preserved
loop-k-preserved g c =
    λ h e. rw (e _ _ _ c.f.ensures) (two-more (c.loop-k.invariant h e) c.loop-k-test.true)

pub returns : goal.returns
returns g c = λ h e. two_is (c.loop-k.invariant h e) c.loop-k-test.false
