-- `pose`: a plan that was read counts at most sixteen bodies and joints.
use Rattle.std.proofs.Common.{refl, ◌∙◌, ap}
use Rattle.plan.specs.File.{read_of}
use Rattle.plan.specs.FileLaws.{read-few}
use Rattle.report.proofs.Poses.{poses-read, poses-refused}
use Rattle.report.proofs.pose.Goals as goal

pub step_and_report-requires : goal.step_and_report-requires
step_and_report-requires c =
    let few = read-few _ (c.read.ensures ∙ ap (read_of _) c.default.ensures) c.in-Ok.is in
    (few.0, few.1, c.if-out-lt-ROOM.false)

pub returns-in-Ok : goal.returns-in-Ok
returns-in-Ok c =
    let p =
    poses-read _ c.args.scratch.now c.args.out.now c.if-out-lt-ROOM.false c.read.ensures c.default.ensures c.in-Ok.is
    c.step_and_report.ensures.puts c.step_and_report.ensures.scratch_after in
    record { prefix_len = p.0; value = p.1.0; out_after = p.1.1.0; scratch_after = p.1.1.1 }

pub returns-in-Err : goal.returns-in-Err
returns-in-Err c =
    let p =
    poses-refused _ c.args.scratch.now c.args.out.now c.if-out-lt-ROOM.false c.read.ensures c.default.ensures c.in-Err.is c.number.ensures
    c.report.ensures.value c.report.ensures.out_after refl in
    record { prefix_len = p.0; value = p.1.0; out_after = p.1.1.0; scratch_after = p.1.1.1 }
