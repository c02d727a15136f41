-- Before a turn so many passes went on, with a few linear passes each (PassLaws `Looping`).
use Rattle.step.proofs.PassLaws.{Looping}
use Rattle.step.proofs.passes.stage_loop.Given as goal

abbrev pub invariant-loop : goal.invariant-loop
invariant-loop g l = Looping g.S.Apply.which (g.S.Stage.job l.stage) l.rows l.most l.fn.s l.fn.counts l.s l.counter l.counts
