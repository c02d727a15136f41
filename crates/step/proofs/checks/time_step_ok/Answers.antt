-- By name, so that another test is refused for the fact that fails.
use Rattle.std.proofs.Common.{refl, sym, ◌∙◌}
use Rattle.arith.specs.Literals.{zero}
use Rattle.step.proofs.checks.time_step_ok.Goals as goal

pub returns-then-is_finite : goal.returns-then-is_finite
returns-then-is_finite c = rw (sym c.is_finite.ensures ∙ c.if-is_finite.true, sym zero) refl
