-- The kept motion where it is that body's, else the body's own.
use Rattle.step.proofs.VelocityLaws.{motion-known}
use Rattle.step.proofs.velocity.motion_again.Goals as goal

pub returns-in-Some : goal.returns-in-Some
returns-in-Some c = motion-known c.requires.1 c.in-Some.is c.if-motion-k.true

pub returns-in_default : goal.returns-in_default
returns-in_default c = c.motion_of.ensures
