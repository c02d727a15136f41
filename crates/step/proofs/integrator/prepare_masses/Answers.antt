-- A mass more, one that fails, and the last.
use Rattle.std.proofs.Common.{arith}
use Rattle.std.proofs.lemmas.Result.{err_from_is_err_and}
use Rattle.step.proofs.TableLaws.{weigh-none, weigh-again, weigh-stops, weigh-ends}
use Rattle.step.proofs.integrator.prepare_masses.Goals as goal

pub loop-k-init : goal.loop-k-init
loop-k-init c = weigh-none _ _ _

pub returns-in_err-prepare_mass : goal.returns-in_err-prepare_mass
returns-in_err-prepare_mass c =
    let error = err_from_is_err_and c.from_residual.result c.from_residual.ensures.1 in
    rw (error.1, error.2)
    (weigh-stops _ _ _ _ _ c.loop-k.invariant c.loop-k-test.true c.requires c.load_moved-body.ensures c.in_err-prepare_mass.ensures)

pub loop-k-preserved : goal.loop-k-preserved
loop-k-preserved c =
    weigh-again _ _ _ _ _ c.loop-k.invariant c.loop-k-test.true c.requires c.load_moved-body.ensures c.in_ok-prepare_mass.ensures

pub returns : goal.returns
returns c = weigh-ends _ _ _ _ _ c.loop-k.invariant (omega arith) c.loop-k-test.false c.requires
