-- `load_candidate`: what `load_body` gives at the candidate's place is the definition's.
use Rattle.step.proofs.bodies.load_candidate.Goals as goal

pub returns : goal.returns
returns c = c.load_body.ensures
