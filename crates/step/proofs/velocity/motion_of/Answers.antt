-- The contracts of the load, of the division and of `omega`.
use Rattle.step.proofs.VelocityLaws.{motion-made}
use Rattle.step.proofs.velocity.motion_of.Goals as goal

pub returns : goal.returns
returns c = motion-made c.load_candidate-body.ensures c.div.ensures c.omega.ensures
