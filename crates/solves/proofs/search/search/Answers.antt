-- A pass more, and the ways to end.
use Rattle.std.proofs.Common.{arith}
use Rattle.std.proofs.lemmas.Result.{err_from_is_err_and}
use Rattle.solves.proofs.SearchLaws.{counted-on, came-none, came-spent, search-again, search-over, search-failed}
use Rattle.solves.proofs.search.search.Goals as goal

pub loop-init : goal.loop-init
loop-init g c = record { counted = omega arith; searched = λ n d h. came-none }

pub returns-in_err-next : goal.returns-in_err-next
returns-in_err-next g c = λ n d h.
    let inv = c.loop.invariant.searched n d h in
    let error = err_from_is_err_and c.from_residual.result c.from_residual.ensures.1 in
    rw (error.1, error.2)
    (counted-on _ (search-failed n inv (omega arith) (h _ _ _ _ inv.kept c.in_err-next.ensures)) (omega arith))

pub returns-in_default : goal.returns-in_default
returns-in_default g c = λ n d h.
    let inv = c.loop.invariant.searched n d h in
    counted-on _ (search-over n inv (omega arith) (h _ _ _ _ inv.kept (rw c.in_default.is at c.in_ok-next.ensures))) (omega arith)

pub loop-preserved : goal.loop-preserved
loop-preserved g c = record {
  counted = omega arith;
  searched = λ n d h.
      let inv = c.loop.invariant.searched n d h in
      search-again n inv (omega arith) (h _ _ _ _ inv.kept (rw c.in-Some.is at c.in_ok-next.ensures));
}

pub returns : goal.returns
returns g c = λ n d h. counted-on _ (came-spent (c.loop.invariant.searched n d h) (omega arith)) (omega arith)
