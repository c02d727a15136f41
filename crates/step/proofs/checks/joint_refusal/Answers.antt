-- By name, so that another refusal is refused for the fact that fails.
use Rattle.std.proofs.Common.{refl, sym, ◌∙◌}
use Rattle.arith.specs.Flow.{and_then}
use Rattle.step.specs.Checks.{joints_or}
use Rattle.step.proofs.checks.joint_refusal.Goals as goal

pub returns-then-not-joints_join : goal.returns-then-not-joints_join
unfolding joints_or and_then
returns-then-not-joints_join c = rw (sym c.joints_join.ensures ∙ c.if-not-joints_join.true) refl
