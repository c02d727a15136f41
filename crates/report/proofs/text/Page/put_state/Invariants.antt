-- `put_state`: after so many turns there are so many doubles.
use Rattle.report.specs.Text.{Writes, fields_of}
use Rattle.report.proofs.text.Page.put_state.Given as goal

abbrev pub invariant-loop-x : goal.invariant-loop-x
invariant-loop-x l = Writes l.initial.self (fields_of l.bodies l.from l.x-index) l.self
