-- The rows of a joint more, a joint whose rows fail, and the last.
use Rattle.std.proofs.Common.{refl, arith}
use Rattle.std.proofs.lemmas.Result.{err_from_is_err_and}
use Rattle.step.proofs.RowLaws.{before-none, wrote_none, wrote-rows, wrote-again, wrote-stops, wrote-ends}
use Rattle.step.proofs.StepLaws.{written-most}
use Rattle.step.proofs.integrator.write_rows.Goals as goal

pub loop-joint-init : goal.loop-joint-init
loop-joint-init c = record { few = omega arith; counted = before-none _; wrote = λ body-count J ia ib S. wrote_none _ _ _ _ _ body-count J ia ib S }

pub overflow_mul-n : goal.overflow_mul-n
overflow_mul-n c = omega (arith, c.loop-joint.invariant.few, c.loop-joint-test.true, c.requires.1.few)

pub overflow_add-place : goal.overflow_add-place
overflow_add-place c = omega (arith, c.loop-joint.invariant.few, c.loop-joint-test.true, c.requires.0, c.requires.1.few)

pub write_equality_rows-requires : goal.write_equality_rows-requires
write_equality_rows-requires c = omega (arith, c.loop-joint.invariant.few, c.loop-joint-test.true, c.requires, c.requires.1.few)

pub overflow_add-n : goal.overflow_add-n
overflow_add-n c =
    omega (arith, c.loop-joint.invariant.few, c.loop-joint-test.true, c.requires.1.few, written-most c.in_ok-n.ensures _ refl)

pub returns-in_err-n : goal.returns-in_err-n
returns-in_err-n c body-count J ia ib S =
    let error = err_from_is_err_and c.from_residual.result c.from_residual.ensures.1 in
    rw (error.1, error.2)
    (wrote-stops _ _ c.args.moved _ _ body-count J ia ib S c.loop-joint.joint-index _ _ (c.loop-joint.invariant.wrote body-count J ia ib S)
    c.loop-joint-test.true (omega (arith, c.loop-joint.invariant.few, c.requires.1.few)) c.requires.0 c.loop-joint.invariant.counted
    c.load_moved-a.ensures c.load_moved-b.ensures _ c.in_err-n.ensures refl)

pub loop-joint-preserved : goal.loop-joint-preserved
loop-joint-preserved c =
    record {
      few = omega (arith, c.loop-joint.invariant.few, written-most c.in_ok-n.ensures _ refl);
      counted = wrote-rows _ _ _ c.loop-joint.invariant.counted c.in_ok-n.ensures _ refl;
      wrote = λ body-count J ia ib S.
          wrote-again _ _ c.args.moved _ _ body-count J ia ib S c.loop-joint.joint-index _ _ (c.loop-joint.invariant.wrote body-count J ia ib S)
          c.loop-joint-test.true (omega (arith, c.loop-joint.invariant.few, c.requires.1.few)) c.requires.0 c.loop-joint.invariant.counted
          c.load_moved-a.ensures c.load_moved-b.ensures _ c.in_ok-n.ensures refl;
    }

pub returns : goal.returns
returns c body-count J ia ib S =
    wrote-ends _ _ c.args.moved _ _ body-count J ia ib S c.loop-joint.joint-index _ _ (c.loop-joint.invariant.wrote body-count J ia ib S)
    c.loop-joint.invariant.counted (omega arith) c.loop-joint-test.false
