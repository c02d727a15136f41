-- m is below the square of r + 1, and r at most the first guess. Each turn makes r smaller.
use Rattle.std.proofs.Common.{◌+◌, ◌*◌, ◌≤◌, ◌<◌}
use Rattle.arith.proofs.root.whole_root.Given as goal

abbrev pub invariant-loop-r : goal.invariant-loop-r
invariant-loop-r l = (l.m < (l.r + 1) * (l.r + 1)) × (l.r ≤ 268435456)

abbrev pub decreases-loop-r : goal.decreases-loop-r
decreases-loop-r l = l.r
