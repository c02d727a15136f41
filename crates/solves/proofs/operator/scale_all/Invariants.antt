-- The first k shares went through their masses.
use Rattle.std.proofs.Common.{◌*◌}
use Rattle.arith.specs.Flow.{go}
use Rattle.rows.specs.View.{Out}
use Rattle.solves.specs.Region.{Does}
use Rattle.solves.specs.View.{shares_in, masses_at, MASSES, GENERALIZED}
use Rattle.solves.specs.Solver.{scale_all}
use Rattle.solves.proofs.operator.scale_all.Given as goal

abbrev pub invariant-loop-k : goal.invariant-loop-k
invariant-loop-k l = Does (λ i. Out GENERALIZED (6 * l.k) i) l.fn.s l.s (go (shares_in l.s l.k))
    (scale_all (shares_in l.fn.s l.body_count) (masses_at l.fn.s MASSES l.body_count) l.k)
