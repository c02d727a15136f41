-- The first k rows were pushed onto the cleared shares; their test waits.
use Rattle.arith.specs.Flow.{loop}
use Rattle.solves.specs.Region.{vec_at, Does}
use Rattle.solves.specs.View.{system_at, count_of, shares_in, Shares}
use Rattle.solves.specs.Checked.{checked}
use Rattle.solves.proofs.OperatorLaws.{row_turn}
use Rattle.solves.proofs.joined.Rows.transpose.Given as goal

abbrev pub invariant-loop-k : goal.invariant-loop-k
invariant-loop-k l = Does Shares l.initial.s l.s (checked (shares_in l.s l.self.bodies))
    (loop l.k (row_turn (system_at l.initial.s l.self).rows (vec_at l.initial.s l.values (count_of l.self))) (shares_in l.initial.s l.self.bodies))
