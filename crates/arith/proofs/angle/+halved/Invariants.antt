-- One halving fewer each time.
use Rattle.arith.proofs.angle.+halved.Given as goal

abbrev pub decreases-halved : goal.decreases-halved
decreases-halved l = l.halvings
