-- `path_edges` meets its contract: turn by turn by BlockLaws `edges_more`, where a body is full by `edges-lost-a` and `edges-lost-b`.
use Rattle.std.proofs.Common.{arith}
use Rattle.std.proofs.lemmas.Grind.{common_steps}
use Rattle.solves.proofs.BlockLaws.{left-go, left-stop, edges_none, edges_more, edges-end, edges-lost-a, edges-lost-b}
use Rattle.solves.proofs.order.path_edges.Goals as goal

pub loop-k-init : goal.loop-k-init
loop-k-init c = edges_none

pub loop-k-preserved : goal.loop-k-preserved
loop-k-preserved c = edges_more c.requires c.loop-k.invariant c.loop-k-test.true (left-go _ c.in_ok-add.was c.add.ensures)
    (left-go _ c.in_ok-add-2.was c.add-in-loop-k.ensures)

pub returns : goal.returns
returns c = edges-end c.loop-k.invariant c.loop-k.auto.k-end c.loop-k-test.false

pub returns-in_err-add : goal.returns-in_err-add
returns-in_err-add c =
    let lost = edges-lost-a c.requires c.loop-k.invariant c.loop-k-test.true c.in_err-add.field-0.0 (left-stop _ c.in_err-add.was c.add.ensures) in
    grind (arith, common_steps)

pub returns-in_err-add-2 : goal.returns-in_err-add-2
returns-in_err-add-2 c =
    let lost = edges-lost-b c.requires c.loop-k.invariant c.loop-k-test.true (left-go _ c.in_ok-add.was c.add.ensures) c.in_err-add-2.field-0.0
    (left-stop _ c.in_err-add-2.was c.add-in-loop-k.ensures) in
    grind (arith, common_steps)
