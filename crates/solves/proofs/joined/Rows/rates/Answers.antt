-- A rate more, the first that overflows, and the last.
use Rattle.std.proofs.Common.{arith}
use Rattle.std.proofs.lemmas.Result.{err_from_is_err_and}
use Rattle.solves.proofs.OperatorLaws.{on-a, on-b, rates-none, rates-stops, rates-again, rates-ends}
use Rattle.solves.proofs.SearchLaws.{ready}
use Rattle.solves.proofs.joined.Rows.rates.Goals as goal

pub loop-k-init : goal.loop-k-init
loop-k-init c = rates-none (ready c.args.self.now c.requires.0) c.requires.1 _

pub load_generalized-a-requires : goal.load_generalized-a-requires
load_generalized-a-requires c =
    omega (arith, on-a (ready c.args.self.now c.requires.0) (omega arith) c.loop-k.s c.load-row.ensures)

pub load_generalized-b-requires : goal.load_generalized-b-requires
load_generalized-b-requires c =
    omega (arith, on-b (ready c.args.self.now c.requires.0) (omega arith) c.loop-k.s c.load-row.ensures)

pub returns-in_err-s : goal.returns-in_err-s
returns-in_err-s c =
    let error = err_from_is_err_and c.from_residual.result c.from_residual.ensures.1 in
    rw (error.1, error.2)
    (rates-stops (ready c.args.self.now c.requires.0) c.requires.1 _ c.loop-k.invariant (omega arith) c.loop-k.auto.s c.load-row.ensures
    c.load_generalized-a.ensures
    c.load_generalized-b.ensures c.rate.ensures c.in_err-s.ensures)

pub loop-k-preserved : goal.loop-k-preserved
loop-k-preserved c =
    rates-again (ready c.args.self.now c.requires.0) c.requires.1 _ c.loop-k.invariant (omega arith) c.loop-k.auto.s c.load-row.ensures
    c.load_generalized-a.ensures
    c.load_generalized-b.ensures c.rate.ensures c.in_ok-s.ensures

pub returns : goal.returns
returns c = rates-ends (ready c.args.self.now c.requires.0) c.requires.1 _ c.loop-k.invariant (omega arith) (omega arith)
