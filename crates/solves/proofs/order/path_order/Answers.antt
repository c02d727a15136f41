-- `path_order` meets its contract: by WalkLaws from what blocks, edges and walks gave.
use Rattle.std.proofs.Common.{◌≡◌, sym, ◌∙◌, Err, arith}
use Rattle.std.proofs.lemmas.Grind.{common_steps}
use Rattle.solves.proofs.WalkLaws.{walked-as, ordered-as, order-declined, order-lost, order-short, order-found}
use Rattle.solves.proofs.order.path_order.Goals as goal

pub returns-in_err-edges : goal.returns-in_err-edges
returns-in_err-edges c =
    let failed : c.from_residual.result ≡ Err c.in_err-edges.field-0.0 = grind (arith, common_steps) in
    ordered-as (sym failed) (order-declined _ _ _ c.path_blocks-number.ensures.0.is c.in_err-edges.field-0.0 (sym c.in_err-edges.was ∙ c.path_edges.ensures.0))

pub returns-in_err-walks : goal.returns-in_err-walks
returns-in_err-walks c =
    let failed : c.from_residual-in_err-walks.result ≡ Err c.in_err-walks.field-0.0 = grind (arith, common_steps) in
    ordered-as (sym failed) (order-lost _ _ _ c.path_blocks-number.ensures.0.is _ (sym c.in_ok-edges.was ∙ c.path_edges.ensures.0) c.in_err-walks.field-0.0
    (walked-as c.in_err-walks.was c.walks.ensures))

pub returns-then-seen-count : goal.returns-then-seen-count
returns-then-seen-count c = order-short _ _ _ c.path_blocks-number.ensures.0.is _ (sym c.in_ok-edges.was ∙ c.path_edges.ensures.0)
    (walked-as c.in_ok-walks.was c.walks.ensures) (rw c.count.ensures at c.if-seen-count.true)

pub returns : goal.returns
returns c = order-found _ _ _ c.path_blocks-number.ensures.0.is _ (sym c.in_ok-edges.was ∙ c.path_edges.ensures.0)
    (walked-as c.in_ok-walks.was c.walks.ensures) c.path_blocks-number.ensures.2 (rw c.count.ensures at c.if-seen-count.false)
