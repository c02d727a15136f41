-- Before the turn at `joint-index` the rows of the joints before it are named, by bodies that are there.
use Rattle.std.proofs.Common.{ℕ, ◌≡◌, ◌*◌, ◌≤◌, ◌<◌, get_or}
use Rattle.step.specs.Joined.{Joined}
use Rattle.std.proofs.Common.{length}
use Rattle.step.specs.RunView.{rows_before, Sides}
use Rattle.step.proofs.integrator.row_bodies.Given as goal

abbrev pub invariant-loop-joint : goal.invariant-loop-joint
invariant-loop-joint l = record {
  few : l.n ≤ 6 * l.joint-index;
  counted : l.n ≡ rows_before l.joints l.joint-index;
  sides : Sides l.joints l.joint-index l.ia l.ib;
  a-there : (body-count : ℕ) → Joined l.joints (length l.joints) body-count → (j : ℕ) → j < l.n → get_or l.ia j 0 < body-count;
  b_there : (body-count : ℕ) → Joined l.joints (length l.joints) body-count → (j : ℕ) → j < l.n → get_or l.ib j 0 < body-count;
}
