use Rattle.std.proofs.Common.{◌≤◌, arith}
use Rattle.arith.specs.FlowLaws.{turns-end}
use Rattle.step.proofs.RowLaws.{before-none, before_more, sides-none, sides-more, sides-end, sides-taken}
use Rattle.step.proofs.StepLaws.{spread-less, kind-most}
use Rattle.step.proofs.integrator.row_bodies.Goals as goal

pub loop-joint-init : goal.loop-joint-init
loop-joint-init c = record {
  few = omega arith;
  counted = before-none _;
  sides = sides-none _;
  a-there = λ body-count q j h. absurd (omega arith);
  b_there = λ body-count q j h. absurd (omega arith);
}

pub fill-requires : goal.fill-requires
fill-requires c =
    let most : c.row_count-m.result ≤ 6 = search kind-most in
    omega (arith, c.loop-joint.invariant.few, c.loop-joint-test.true, c.requires, most)

pub fill-requires-in-loop-joint : goal.fill-requires-in-loop-joint
fill-requires-in-loop-joint c =
    let most : c.row_count-m.result ≤ 6 = search kind-most in
    omega (arith, c.loop-joint.invariant.few, c.loop-joint-test.true, c.requires, most)

pub overflow_add-n : goal.overflow_add-n
overflow_add-n c =
    let most : c.row_count-m.result ≤ 6 = search kind-most in
    omega (arith, c.loop-joint.invariant.few, c.loop-joint-test.true, c.requires, most)

pub loop-joint-preserved : goal.loop-joint-preserved
loop-joint-preserved c =
    let most : c.row_count-m.result ≤ 6 = search kind-most in
    record {
      few = omega (arith, c.loop-joint.invariant.few, c.loop-joint-test.true, most);
      counted = before_more c.args.joints.now _ _ c.loop-joint.invariant.counted c.row_count-m.ensures;
      sides = sides-more c.args.joints.now c.loop-joint.joint-index c.loop-joint.invariant.sides c.loop-joint.invariant.counted
          c.row_count-m.ensures c.fill.ensures c.fill-in-loop-joint.ensures;
      a-there = λ body-count q. spread-less c.fill.ensures (c.loop-joint.invariant.a-there body-count q) (q.a-there _ c.loop-joint-test.true);
      b_there = λ body-count q. spread-less c.fill-in-loop-joint.ensures (c.loop-joint.invariant.b_there body-count q) (q.b_there _ c.loop-joint-test.true);
    }

pub returns : goal.returns
returns c = (
  record { most = omega (arith, c.loop-joint.invariant.few); a-there = c.loop-joint.invariant.a-there; b_there = c.loop-joint.invariant.b_there },
  sides-taken c.args.joints.now _ _ (sides-end _ (omega arith) c.loop-joint-test.false c.loop-joint.invariant.sides)
      (turns-end _ 0 (omega arith) c.loop-joint-test.false c.loop-joint.invariant.counted),
  turns-end _ 0 (omega arith) c.loop-joint-test.false c.loop-joint.invariant.counted,
)
