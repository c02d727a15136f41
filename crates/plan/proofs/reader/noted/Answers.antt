-- `noted`: what was read to the end has a time step or is refused.
use Rattle.std.proofs.lemmas.Result.{err_from_is_err_and}
use Rattle.plan.proofs.Readings.{noted-refused, noted-none, noted-some}
use Rattle.plan.proofs.reader.noted.Goals as goal

pub returns-in_err-notes : goal.returns-in_err-notes
returns-in_err-notes c =
    let p = err_from_is_err_and c.from_residual.result c.from_residual.ensures.1 in
    rw (p.1, p.2) (noted-refused _ c.none.ensures c.none-2.ensures c.read_on.ensures c.in_err-notes.was)

pub returns-in_err-dt : goal.returns-in_err-dt
returns-in_err-dt c =
    let p = err_from_is_err_and c.from_residual-in_err-dt.result c.from_residual-in_err-dt.ensures.1 in
    rw (p.1, p.2)
    (noted-none _ c.none.ensures c.none-2.ensures c.read_on.ensures c.in_ok-notes.was c.ok_or.ensures.ok_part c.ok_or.ensures.value c.in_err-dt.was)

pub returns : goal.returns
returns c = noted-some _ c.none.ensures c.none-2.ensures c.read_on.ensures c.in_ok-notes.was c.ok_or.ensures.ok_part c.in_ok-dt.was
