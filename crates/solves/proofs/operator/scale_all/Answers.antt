-- A share more, the first that overflows, and the last.
use Rattle.std.proofs.Common.{arith}
use Rattle.std.proofs.lemmas.Result.{err_from_is_err_and}
use Rattle.solves.proofs.OperatorLaws.{scale-none, scale-stops, scale-again, scale-ends}
use Rattle.solves.proofs.operator.scale_all.Goals as goal

pub loop-k-init : goal.loop-k-init
loop-k-init c = scale-none _ _ c.requires.1

pub loop-k-preserved : goal.loop-k-preserved
loop-k-preserved c =
    scale-again _ _ c.requires.1 c.loop-k.invariant c.loop-k-test.true c.load_generalized-value.ensures c.load_mass-mass.ensures c.in_ok-through.ensures
    c.store_generalized.ensures

pub returns-in_err-through : goal.returns-in_err-through
returns-in_err-through c =
    let error = err_from_is_err_and c.from_residual.result c.from_residual.ensures.1 in
    rw (error.1, error.2)
    (scale-stops _ _ c.requires.1 c.loop-k.invariant c.loop-k-test.true c.load_generalized-value.ensures c.load_mass-mass.ensures c.in_err-through.ensures)

pub returns : goal.returns
returns c = scale-ends _ _ c.requires.1 c.loop-k.invariant (omega arith) c.loop-k-test.false
