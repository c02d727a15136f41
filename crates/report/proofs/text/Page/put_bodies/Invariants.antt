-- `put_bodies`: before turn i there are i lines.
use Rattle.report.specs.Text.{Writes, body_lines}
use Rattle.report.proofs.text.Page.put_bodies.Given as goal

abbrev pub invariant-loop-i : goal.invariant-loop-i
invariant-loop-i l = Writes l.initial.self (body_lines l.bodies l.i) l.self
