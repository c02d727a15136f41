-- `put_body`: before turn i the first i places have the body's doubles.
use Rattle.std.specs.Prelude.{ℕ, ◌≡◌, ◌+◌, ◌*◌, ◌<◌}
use Rattle.rows.specs.View.{at}
use Rattle.plan.specs.File.{double, NUMBERS}
use Rattle.plan.proofs.records.put_body.Given as goal

abbrev pub invariant-loop-i : goal.invariant-loop-i
invariant-loop-i l = (j : ℕ) → j < l.i → at l.x-items j ≡ double l.file (NUMBERS + 8 * j)
