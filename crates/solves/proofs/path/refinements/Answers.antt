-- A refinement more, and the ways to end.
use Rattle.std.proofs.Common.{arith}
use Rattle.std.proofs.lemmas.Result.{err_from_is_err_and}
use Rattle.solves.specs.View.{table_of}
use Rattle.solves.specs.DoesLaws.{does-more}
use Rattle.solves.specs.ViewLaws.{refining-work}
use Rattle.solves.proofs.SearchLaws.{ready-along, counted-on, came-none, came-spent}
use Rattle.solves.proofs.SolveLaws.{refined-failed, refined-wild, refined-over, refined-more}
use Rattle.solves.proofs.path.refinements.Goals as goal

pub loop-init : goal.loop-init
loop-init c = record { counted = omega arith; came = came-none }

pub returns-in_err-refine : goal.returns-in_err-refine
returns-in_err-refine c =
    let error = err_from_is_err_and c.from_residual.result c.from_residual.ensures.1 in
    rw (error.1, error.2)
    (counted-on _ (does-more refining-work (refined-failed (table_of c.args.path.now.rows) (ready-along c.args.path.now c.requires.0) _ _
    c.loop.invariant.came (omega arith) c.in_err-refine.ensures)) (omega arith))

pub returns-in_err-within : goal.returns-in_err-within
returns-in_err-within c =
    let error = err_from_is_err_and c.from_residual-in_err-within.result c.from_residual-in_err-within.ensures.1 in
    rw (error.1, error.2)
    (counted-on _
    (does-more refining-work (refined-wild (table_of c.args.path.now.rows) (ready-along c.args.path.now c.requires.0) _ _ c.loop.invariant.came
    (omega arith) c.in_ok-refine.ensures (rw c.count.ensures at c.in_err-within.ensures)))
    (omega arith))

pub returns-then-branch : goal.returns-then-branch
returns-then-branch c =
    counted-on _
    (does-more refining-work (refined-over (table_of c.args.path.now.rows) (ready-along c.args.path.now c.requires.0) _ _ c.loop.invariant.came
    (omega arith) c.in_ok-refine.ensures (rw (c.count.ensures, c.if-branch.true) at c.in_ok-within.ensures)))
    (omega arith)

pub loop-preserved : goal.loop-preserved
loop-preserved c = record {
  counted = omega arith;
  came = refined-more (table_of c.args.path.now.rows) (ready-along c.args.path.now c.requires.0) _ _ c.loop.invariant.came (omega arith)
      c.in_ok-refine.ensures (rw (c.count.ensures, c.if-branch.false) at c.in_ok-within.ensures);
}

pub returns : goal.returns
returns c = counted-on _ (does-more refining-work (came-spent c.loop.invariant.came (omega arith))) (omega arith)
