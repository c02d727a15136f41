-- The first k of the places hold the block's first k rows.
use Rattle.std.specs.Prelude.{ℕ, ◌≡◌, ◌+◌, ◌<◌, get_or}
use Rattle.solves.proofs.order.append.Given as goal

abbrev pub invariant-loop-k : goal.invariant-loop-k
invariant-loop-k l = (j : ℕ) → j < l.k → get_or l.row-items j 0 ≡ l.block.start + j
