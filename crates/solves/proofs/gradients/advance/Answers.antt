-- The ways to end, each a law of GradientLaws.
use Rattle.std.proofs.Common.{arith}
use Rattle.std.proofs.lemmas.Result.{err_from_is_err_and}
use Rattle.arith.specs.Laws.Constants.{zero_is}
use Rattle.solves.specs.View.{table_of, DIRECTION, PRODUCT}
use Rattle.solves.proofs.OperatorLaws.{place_of}
use Rattle.solves.proofs.SearchLaws.{ready}
use Rattle.solves.proofs.GradientLaws.{advance-unmoved, advance-unmeasured, advance-flat, advance-wild, advance-done}
use Rattle.solves.proofs.gradients.advance.Goals as goal
use Rattle.solves.proofs.gradients.advance.Goals.{then-curvature-via-then-curvature, then-curvature-via-else-curvature+then-not-is_finite}

pub operator-requires : goal.operator-requires
operator-requires c = (
  c.requires,
  place_of DIRECTION (omega arith) (omega arith) (omega arith),
  place_of PRODUCT (omega arith) (omega arith) (omega arith),
)

pub returns-in_err-operator : goal.returns-in_err-operator
returns-in_err-operator c =
    let error = err_from_is_err_and c.from_residual.result c.from_residual.ensures.1 in
    rw (error.1, error.2)
    (advance-unmoved (table_of c.args.rows.now) (ready c.args.rows.now c.requires) _ c.in_err-operator.ensures)

pub returns-in_err-curvature : goal.returns-in_err-curvature
returns-in_err-curvature c =
    let n = c.count-n.ensures in
    let error = err_from_is_err_and c.from_residual-in_err-curvature.result c.from_residual-in_err-curvature.ensures.1 in
    rw (error.1, error.2)
    (advance-unmeasured (table_of c.args.rows.now) (ready c.args.rows.now c.requires) _ c.in_ok-operator.ensures (rw n at c.in_err-curvature.ensures))

pub returns-then-curvature : goal.returns-then-curvature
returns-then-curvature c =
    let n = c.count-n.ensures in
    elim c.then-curvature.branch [
      | then-curvature-via-then-curvature w ↦
          advance-flat (table_of c.args.rows.now) (ready c.args.rows.now c.requires) _ c.in_ok-operator.ensures zero_is
          (rw n at c.in_ok-curvature.ensures) w.if-curvature.true
      | then-curvature-via-else-curvature+then-not-is_finite w ↦
          advance-wild (table_of c.args.rows.now) (ready c.args.rows.now c.requires) _ c.in_ok-operator.ensures zero_is
          (rw n at c.in_ok-curvature.ensures) w.if-curvature.false w.is_finite.ensures
          w.if-not-is_finite.true
    ]

pub returns : goal.returns
returns c =
    let n = c.count-n.ensures in
    advance-done (table_of c.args.rows.now) (ready c.args.rows.now c.requires) _ c.in_ok-operator.ensures zero_is (rw n at c.in_ok-curvature.ensures)
    c.if-curvature.false c.is_finite.ensures
    c.if-not-is_finite.false (rw n at c.add_scaled.ensures) (rw n at c.add_scaled-2.ensures)
