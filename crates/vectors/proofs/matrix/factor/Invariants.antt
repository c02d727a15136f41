-- The factor so far is the definition's after `row` turns.
use Rattle.std.proofs.Common.{◌≡◌}
use Rattle.arith.specs.Flow.{go, loop}
use Rattle.vectors.specs.Matrix.{factor_row_of}
use Rattle.vectors.proofs.matrix.factor.Given as goal

abbrev pub invariant-loop-row : goal.invariant-loop-row
invariant-loop-row l = go l.lower ≡ loop l.row (factor_row_of l.n) l.fn.lower
