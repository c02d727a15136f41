-- The whole step is turned from the rotation at entry.
use Rattle.std.proofs.Common.{rules, ◌≡◌, ◌∙◌}
use Rattle.arith.specs.Flow.{and_then}
use Rattle.arith.specs.Literals.{literals}
use Rattle.rows.specs.Body.{pass_of, integrate}
use Rattle.rows.proofs.UnitLaws.{integrate_is}
use Rattle.rows.proofs.body.Oriented.pass.Goals as goal

pub returns-in_err-rotation : goal.returns-in_err-rotation
unfolding pass_of and_then
returns-in_err-rotation c =
    let turned : c.integrate_as_unit-then-residual-size.result ≡ integrate c.args.self.body.rotation c.in_ok-next.next c.args.dt =
    c.integrate_as_unit-then-residual-size.ensures ∙ integrate_is c.args.self.unit_is _ _ in
    search (rules, literals, integrate_is)

pub returns-then-residual-size : goal.returns-then-residual-size
unfolding pass_of and_then
returns-then-residual-size c =
    let turned : c.integrate_as_unit-then-residual-size.result ≡ integrate c.args.self.body.rotation c.in_ok-next.next c.args.dt =
    c.integrate_as_unit-then-residual-size.ensures ∙ integrate_is c.args.self.unit_is _ _ in
    search (rules, literals, integrate_is)
