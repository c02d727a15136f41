-- `step_and_report`: the counted records are lent to the step and to the report.
use Rattle.std.proofs.Common.{rules, length, ◌≡◌, ◌≤◌}
use Rattle.plan.specs.File.{TABLE}
use Rattle.report.proofs.Poses.{step-scratch, accepted-step, refused-step}
use Rattle.report.proofs.step_and_report.Goals as goal

pub returns-in-Ok-clause-puts : goal.returns-in-Ok-clause-puts
returns-in-Ok-clause-puts c =
    let long : length c.args.plan.tables.bodies ≡ TABLE = search rules in
    let few-joints : c.args.plan.tables.joint_count ≤ length c.args.plan.tables.joints = search rules in
    accepted-step c.args.plan _ c.requires.0 long few-joints c.solve-answer.auto.bodies c.solve-answer.ensures c.from-counts.ensures c.requires.2
    c.in-Ok.is c.report.ensures.value c.report.ensures.out_after

pub returns-in-Ok-clause-scratch_after : goal.returns-in-Ok-clause-scratch_after
returns-in-Ok-clause-scratch_after c =
    let long : length c.args.plan.tables.bodies ≡ TABLE = search rules in
    let few-joints : c.args.plan.tables.joint_count ≤ length c.args.plan.tables.joints = search rules in
    step-scratch c.args.plan _ c.requires.0 long few-joints c.solve-answer.auto.bodies c.solve-answer.ensures

pub returns-in-Err-clause-puts : goal.returns-in-Err-clause-puts
returns-in-Err-clause-puts c =
    let long : length c.args.plan.tables.bodies ≡ TABLE = search rules in
    let few-joints : c.args.plan.tables.joint_count ≤ length c.args.plan.tables.joints = search rules in
    refused-step c.args.plan _ c.requires.0 long few-joints c.solve-answer.auto.bodies c.solve-answer.ensures c.from-counts.ensures c.requires.2
    c.in-Err.is c.number.ensures c.report-in-Err.ensures.value c.report-in-Err.ensures.out_after

pub returns-in-Err-clause-scratch_after : goal.returns-in-Err-clause-scratch_after
returns-in-Err-clause-scratch_after c =
    let long : length c.args.plan.tables.bodies ≡ TABLE = search rules in
    let few-joints : c.args.plan.tables.joint_count ≤ length c.args.plan.tables.joints = search rules in
    step-scratch c.args.plan _ c.requires.0 long few-joints c.solve-answer.auto.bodies c.solve-answer.ensures
