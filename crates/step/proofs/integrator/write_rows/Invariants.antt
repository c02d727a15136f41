-- Before the turn at `joint-index` the rows of the joints before it stand in the table, whatever bodies two lists name for them.
use Rattle.std.proofs.Common.{ℕ, ◌≡◌, ◌*◌, ◌≤◌, List, length}
use Rattle.step.specs.Joined.{Joined}
use Rattle.step.specs.RunView.{rows_before, Sides}
use Rattle.step.proofs.RowLaws.{Wrote}
use Rattle.step.proofs.integrator.write_rows.Given as goal

abbrev pub invariant-loop-joint : goal.invariant-loop-joint
invariant-loop-joint l = record {
  few : l.n ≤ 6 * l.joint-index;
  counted : l.n ≡ rows_before l.joints l.joint-index;
  wrote : (body-count : ℕ) (J : Joined l.joints (length l.joints) body-count) (ia ib : List ℕ) (S : Sides l.joints (length l.joints) ia ib)
      → Wrote l.joints (length l.joints) l.moved l.place l.fn.s body-count J ia ib S l.joint-index l.n l.s;
}
