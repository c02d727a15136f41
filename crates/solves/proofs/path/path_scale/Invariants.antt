-- The scales of the first i rows stand.
use Rattle.arith.specs.Flow.{go}
use Rattle.solves.specs.Region.{vec_at, Does}
use Rattle.solves.specs.View.{PATH_SCALE, Beside}
use Rattle.solves.specs.Path.{path_scale}
use Rattle.solves.specs.PathView.{along}
use Rattle.solves.proofs.path.path_scale.Given as goal

abbrev pub invariant-loop-i : goal.invariant-loop-i
invariant-loop-i l = Does (Beside PATH_SCALE) l.fn.s l.s (go (vec_at l.s PATH_SCALE l.i)) (along l.fn.s l.path path_scale l.i)
