-- One law for each way out.
use Rattle.std.proofs.Common.{sym}
use Rattle.std.proofs.lemmas.Result.{err_from_is_err_and}
use Rattle.step.proofs.VelocityLaws.{rate-without-a, rate-without-b, rate-tried}
use Rattle.step.proofs.velocity.velocity.Goals as goal

pub returns-in_err-wa : goal.returns-in_err-wa
returns-in_err-wa c = λ x y a b.
    let error = err_from_is_err_and c.from_residual.result c.from_residual.ensures.1 in
    rw (error.1, error.2) (rate-without-a _ x y a b (sym c.in_err-wa.was))

pub returns-in_err-wb : goal.returns-in_err-wb
returns-in_err-wb c = λ x y a b.
    let error = err_from_is_err_and c.from_residual-in_err-wb.result c.from_residual-in_err-wb.ensures.1 in
    rw (error.1, error.2) (rate-without-b _ x y a b (sym c.in_ok-wa.was) (sym c.in_err-wb.was))

pub returns : goal.returns
returns c = λ x y a b.
    rate-tried _ x y a b (sym c.in_ok-wa.was) (sym c.in_ok-wb.was) c.dot.ensures c.dot-2.ensures c.dot-3.ensures c.dot-4.ensures
    c.finite_number.ensures
