-- The first k rates stand.
use Rattle.arith.specs.Flow.{go}
use Rattle.solves.specs.Region.{vec_at, Does}
use Rattle.solves.specs.View.{system_at, shares_in, Beside}
use Rattle.solves.specs.Solver.{rates}
use Rattle.solves.proofs.joined.Rows.rates.Given as goal

abbrev pub invariant-loop-k : goal.invariant-loop-k
invariant-loop-k l = Does (Beside l.out) l.fn.s l.s (go (vec_at l.s l.out l.k))
    (rates (system_at l.fn.s l.self).rows l.k (shares_in l.fn.s l.self.bodies))
