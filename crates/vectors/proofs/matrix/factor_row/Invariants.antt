-- The factor so far is the definition's after `column` turns.
use Rattle.std.proofs.Common.{◌≡◌}
use Rattle.arith.specs.Flow.{go, loop}
use Rattle.vectors.specs.Matrix.{entry_of}
use Rattle.vectors.proofs.matrix.factor_row.Given as goal

abbrev pub invariant-loop-column : goal.invariant-loop-column
invariant-loop-column l = go l.lower ≡ loop l.column (entry_of l.n l.row) l.fn.lower
