-- The three calls one after the other.
use Rattle.std.proofs.Common.{◌∙◌, arith}
use Rattle.std.proofs.lemmas.Result.{err_from_is_err_and}
use Rattle.solves.specs.View.{table_of}
use Rattle.solves.proofs.OperatorLaws.{operator-pushes-failed, operator-scales-failed, operator-rates}
use Rattle.solves.proofs.SearchLaws.{ready}
use Rattle.solves.proofs.joined.Rows.operator.Goals as goal

pub returns-in_err-transpose : goal.returns-in_err-transpose
returns-in_err-transpose c =
    let error = err_from_is_err_and c.from_residual.result c.from_residual.ensures.1 in
    rw (error.1, error.2)
    (operator-pushes-failed (table_of c.args.self.now) (ready c.args.self.now c.requires.0) _ _ c.in_err-transpose.ensures.0)

pub returns-in_err-scale_all : goal.returns-in_err-scale_all
returns-in_err-scale_all c =
    let error = err_from_is_err_and c.from_residual-in_err-scale_all.result c.from_residual-in_err-scale_all.ensures.1 in
    rw (error.1, error.2)
    (operator-scales-failed (table_of c.args.self.now) (ready c.args.self.now c.requires.0) _ _ c.in_ok-transpose.ensures.0 c.in_err-scale_all.ensures)

pub rates-requires : goal.rates-requires
rates-requires c =
    let size = c.in_ok-scale_all.ensures.kept.size ∙ c.in_ok-transpose.ensures.0.kept.size in
    (omega arith, record { low = c.requires.2.low; apart = c.requires.2.apart; there = omega (arith, size, c.requires.2.there) })

pub returns : goal.returns
returns c = operator-rates (table_of c.args.self.now) (ready c.args.self.now c.requires.0) _ _ c.in_ok-transpose.ensures.0 c.in_ok-scale_all.ensures
    c.rates.ensures
