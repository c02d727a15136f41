-- Five writes and seven ways to end, each a law of LeastLaws. What is known after a write is said once, of its place.
use Rattle.std.proofs.Common.{arith}
use Rattle.std.proofs.lemmas.Result.{err_from_is_err_and}
use Rattle.arith.specs.Laws.Constants.{zero_is}
use Rattle.solves.specs.View.{table_of, RESIDUAL, DIRECTION, PRODUCT, NORMAL}
use Rattle.solves.proofs.OperatorLaws.{place_of}
use Rattle.solves.proofs.SearchLaws.{ready}
use Rattle.solves.proofs.LeastLaws.{pass-solved, pass-unmoved, pass-moved, pass-unmeasured, pass-stuck, pass-advanced}
use Rattle.solves.proofs.LeastLaws.{pass-unreturned, pass-unmeasured-again, pass-next}
use Rattle.solves.proofs.least_squares.least_pass.Goals as goal

pub returns-then-sqrt-tolerance : goal.returns-then-sqrt-tolerance
returns-then-sqrt-tolerance c = pass-solved (table_of c.args.rows.now) (ready c.args.rows.now c.requires) _ _ c.sqrt.ensures.is c.if-sqrt-tolerance.true

pub operator-requires : goal.operator-requires
operator-requires c =
    (c.requires, place_of DIRECTION (omega arith) (omega arith) (omega arith), place_of PRODUCT (omega arith) (omega arith) (omega arith))

pub returns-in_err-operator : goal.returns-in_err-operator
returns-in_err-operator c =
    let error = err_from_is_err_and c.from_residual.result c.from_residual.ensures.1 in
    rw (error.1, error.2)
    (pass-unmoved (table_of c.args.rows.now) (ready c.args.rows.now c.requires) _ _ c.sqrt.ensures.is c.if-sqrt-tolerance.false c.in_err-operator.ensures)

pub returns-in_err-denominator : goal.returns-in_err-denominator
returns-in_err-denominator c =
    let n = c.count-n.ensures in
    let error = err_from_is_err_and c.from_residual-in_err-denominator.result c.from_residual-in_err-denominator.ensures.1 in
    rw (error.1, error.2)
    (pass-unmeasured (table_of c.args.rows.now) (ready c.args.rows.now c.requires) _ _
    (pass-moved (table_of c.args.rows.now) (ready c.args.rows.now c.requires) _ _ c.sqrt.ensures.is c.if-sqrt-tolerance.false
    c.in_ok-operator.ensures) (rw n at c.in_err-denominator.ensures))

pub returns-then-denominator : goal.returns-then-denominator
returns-then-denominator c =
    let n = c.count-n.ensures in
    pass-stuck (table_of c.args.rows.now) (ready c.args.rows.now c.requires) _ _
    (pass-moved (table_of c.args.rows.now) (ready c.args.rows.now c.requires) _ _ c.sqrt.ensures.is c.if-sqrt-tolerance.false
    c.in_ok-operator.ensures) zero_is (rw n at c.in_ok-denominator.ensures) c.if-denominator.true

pub operator-requires-2 : goal.operator-requires-2
operator-requires-2 c =
    (omega arith, place_of RESIDUAL (omega arith) (omega arith) (omega arith), place_of NORMAL (omega arith) (omega arith) (omega arith))

pub returns-in_err-operator-2 : goal.returns-in_err-operator-2
returns-in_err-operator-2 c =
    let n = c.count-n.ensures in
    let reached =
    pass-advanced (table_of c.args.rows.now) (ready c.args.rows.now c.requires) _ _
    (pass-moved (table_of c.args.rows.now) (ready c.args.rows.now c.requires) _ _ c.sqrt.ensures.is c.if-sqrt-tolerance.false
    c.in_ok-operator.ensures) zero_is (rw n at c.in_ok-denominator.ensures) c.if-denominator.false (rw n at c.add_scaled.ensures)
    (rw n at c.add_scaled-2.ensures) in
    let error = err_from_is_err_and c.from_residual-in_err-operator-2.result c.from_residual-in_err-operator-2.ensures.1 in
    rw (error.1, error.2)
    (pass-unreturned (table_of c.args.rows.now) (ready c.args.rows.now c.requires) _ _ reached c.in_err-operator-2.ensures)

pub returns-in_err-next : goal.returns-in_err-next
returns-in_err-next c =
    let n = c.count-n.ensures in
    let reached =
    pass-advanced (table_of c.args.rows.now) (ready c.args.rows.now c.requires) _ _
    (pass-moved (table_of c.args.rows.now) (ready c.args.rows.now c.requires) _ _ c.sqrt.ensures.is c.if-sqrt-tolerance.false
    c.in_ok-operator.ensures) zero_is (rw n at c.in_ok-denominator.ensures) c.if-denominator.false (rw n at c.add_scaled.ensures)
    (rw n at c.add_scaled-2.ensures) in
    let error = err_from_is_err_and c.from_residual-in_err-next.result c.from_residual-in_err-next.ensures.1 in
    rw (error.1, error.2)
    (pass-unmeasured-again (table_of c.args.rows.now) (ready c.args.rows.now c.requires) _ _ reached c.in_ok-operator-2.ensures (rw n at c.in_err-next.ensures))

pub returns : goal.returns
returns c =
    let n = c.count-n.ensures in
    let reached =
    pass-advanced (table_of c.args.rows.now) (ready c.args.rows.now c.requires) _ _
    (pass-moved (table_of c.args.rows.now) (ready c.args.rows.now c.requires) _ _ c.sqrt.ensures.is c.if-sqrt-tolerance.false
    c.in_ok-operator.ensures) zero_is (rw n at c.in_ok-denominator.ensures) c.if-denominator.false (rw n at c.add_scaled.ensures)
    (rw n at c.add_scaled-2.ensures) in
    pass-next (table_of c.args.rows.now) (ready c.args.rows.now c.requires) _ _ reached c.in_ok-operator-2.ensures (rw n at c.in_ok-next.ensures)
    (rw n at c.add_scaled-3.ensures)
