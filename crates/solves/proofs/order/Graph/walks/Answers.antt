-- `walks` meets its contract: turn by turn by WalkLaws `walks-more`, and where a walk declines by `walks-lost`.
use Rattle.std.proofs.Common.{◌≡◌, sym, ◌∙◌, Err, arith}
use Rattle.std.proofs.lemmas.Grind.{common_steps}
use Rattle.solves.proofs.WalkLaws.{walks-none, walks-past, walks-more, walks-lost, walks-end, walked-as}
use Rattle.solves.proofs.order.Graph.walks.Goals as goal

pub loop-first-init : goal.loop-first-init
loop-first-init c = walks-none _ c.args.self.now.sound.blocked c.requires

pub loop-first-preserved-then-not-is_end : goal.loop-first-preserved-then-not-is_end
loop-first-preserved-then-not-is_end c = walks-past c.loop-first.invariant (sym c.is_end.ensures ∙ c.if-not-is_end.true)

pub walk-requires : goal.walk-requires
walk-requires c = (c.loop-first-test.true, c.loop-first.invariant.free)

pub loop-first-preserved : goal.loop-first-preserved
loop-first-preserved c = walks-more c.loop-first.invariant (sym c.is_end.ensures ∙ c.if-not-is_end.false)
    (walked-as c.in_ok-walk.was c.walk.ensures)

pub returns-in_err-walk : goal.returns-in_err-walk
returns-in_err-walk c =
    let lost = walks-lost c.loop-first.invariant (sym c.is_end.ensures ∙ c.if-not-is_end.false) c.loop-first-test.true
    c.in_err-walk.field-0.0 (walked-as c.in_err-walk.was c.walk.ensures) in
    let failed : c.from_residual.result ≡ Err c.in_err-walk.field-0.0 = grind (arith, common_steps) in
    walked-as (sym failed) lost

pub returns : goal.returns
returns c = walks-end c.loop-first.invariant c.loop-first.auto.first-end c.loop-first-test.false
