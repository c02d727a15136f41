-- A scale more, the first that is refused, and the last.
use Rattle.std.proofs.Common.{arith}
use Rattle.std.proofs.lemmas.Result.{err_from_is_err_and}
use Rattle.arith.specs.Laws.Constants.{zero_is}
use Rattle.solves.proofs.SearchLaws.{ready-along}
use Rattle.solves.proofs.FactorLaws.{scales-none, scales-lost, scales-refused, scales-more, scales-end}
use Rattle.solves.proofs.path.path_scale.Goals as goal

pub loop-i-init : goal.loop-i-init
loop-i-init c = scales-none (ready-along c.args.path.now c.requires) _

pub returns-in_err-value : goal.returns-in_err-value
returns-in_err-value c =
    let error = err_from_is_err_and c.from_residual.result c.from_residual.ensures.1 in
    rw (error.1, error.2)
    (scales-lost (ready-along c.args.path.now c.requires) _ c.loop-i.invariant (omega arith) c.loop-i.auto.s c.in_err-value.ensures)

pub returns-then-value : goal.returns-then-value
returns-then-value c = scales-refused (ready-along c.args.path.now c.requires) _ c.loop-i.invariant (omega arith) c.loop-i.auto.s zero_is
    c.in_ok-value.ensures c.if-value.true

pub loop-i-preserved : goal.loop-i-preserved
loop-i-preserved c = scales-more (ready-along c.args.path.now c.requires) _ c.loop-i.invariant (omega arith) c.loop-i.auto.s zero_is
    c.in_ok-value.ensures c.if-value.false c.sqrt.ensures.is

pub returns : goal.returns
returns c = scales-end (ready-along c.args.path.now c.requires) _ c.loop-i.invariant (omega arith) (omega arith)
