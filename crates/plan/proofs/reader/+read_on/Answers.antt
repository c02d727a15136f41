-- `read_on`: each way by a law of Readings.
use Rattle.std.proofs.Common.{arith, refl, ◌∙◌, ap}
use Rattle.std.specs.Prelude.{Ok}
use Rattle.std.proofs.lemmas.Result.{err_from_is_err_and}
use Rattle.plan.specs.FileLaws.{room-time-step, room-body, room-joint, length-joint}
use Rattle.plan.proofs.Readings.{told, rest-asked, read-end, read-refused, read-time-step, read-body, read-joint}
use Rattle.plan.proofs.reader.+read_on.Goals as goal

-- each record's bytes are there
pub returns-in_err-head : goal.returns-in_err-head
returns-in_err-head t c =
    let p = err_from_is_err_and c.from_residual.result c.from_residual.ensures.1 in
    rw (p.1, p.2) (read-refused _ _ c.head.ensures c.in_err-head.was)

pub slice_bounds-read_on-count : goal.slice_bounds-read_on-count
slice_bounds-read_on-count t c = room-time-step _ _ _ _ c.head.ensures (told c.in_ok-head.was c.in-Some-TimeStep.is c.in-Some-TimeStep.field-0-is)

pub slice_bounds-read_on-start : goal.slice_bounds-read_on-start
slice_bounds-read_on-start t c = omega (arith, slice_bounds-read_on-count t c)

pub double_at-requires : goal.double_at-requires
double_at-requires t c = room-time-step _ _ _ _ c.head.ensures (told c.in_ok-head.was c.in-Some-TimeStep.is c.in-Some-TimeStep.field-0-is)

pub with_time_step-requires : goal.with_time_step-requires
with_time_step-requires t c =
    let long = room-time-step _ _ _ _ c.head.ensures (told c.in_ok-head.was c.in-Some-TimeStep.is c.in-Some-TimeStep.field-0-is) in
    omega (arith, long, c.requires)

pub read_on-requires : goal.read_on-requires
read_on-requires t c =
    let long = room-time-step _ _ _ _ c.head.ensures (told c.in_ok-head.was c.in-Some-TimeStep.is c.in-Some-TimeStep.field-0-is) in
    rest-asked c.args.file.now _ (omega arith) long c.with_time_step.ensures refl (c.decreases, c.requires)

pub slice_bounds-read_on-count-in-Some-Body : goal.slice_bounds-read_on-count-in-Some-Body
slice_bounds-read_on-count-in-Some-Body t c =
    (room-body _ _ _ _ c.head.ensures (told c.in_ok-head.was c.in-Some-Body.is c.in-Some-Body.field-0-is)).0

pub slice_bounds-read_on-start-in-Some-Body : goal.slice_bounds-read_on-start-in-Some-Body
slice_bounds-read_on-start-in-Some-Body t c = omega (arith, slice_bounds-read_on-count-in-Some-Body t c)

pub with_body-requires : goal.with_body-requires
with_body-requires t c =
    let room = room-body _ _ _ _ c.head.ensures (told c.in_ok-head.was c.in-Some-Body.is c.in-Some-Body.field-0-is) in
    (omega (arith, room.0, c.requires), room.1)

pub read_on-requires-in-Some-Body : goal.read_on-requires-in-Some-Body
read_on-requires-in-Some-Body t c =
    let room = room-body _ _ _ _ c.head.ensures (told c.in_ok-head.was c.in-Some-Body.is c.in-Some-Body.field-0-is) in
    rest-asked c.args.file.now _ (omega arith) room.0 c.with_body.ensures refl (c.decreases, c.requires)

pub slice_bounds-read_on-count-in-Some-Joint : goal.slice_bounds-read_on-count-in-Some-Joint
slice_bounds-read_on-count-in-Some-Joint t c =
    (length-joint _ _ _ _ c.head.ensures (told c.in_ok-head.was c.in-Some-Joint.is c.in-Some-Joint.field-0-is)).0

pub slice_bounds-read_on-start-in-Some-Joint : goal.slice_bounds-read_on-start-in-Some-Joint
slice_bounds-read_on-start-in-Some-Joint t c = omega (arith, slice_bounds-read_on-count-in-Some-Joint t c)

pub with_joint-requires : goal.with_joint-requires
with_joint-requires t c =
    let e = told c.in_ok-head.was c.in-Some-Joint.is c.in-Some-Joint.field-0-is in
    (omega (arith, (length-joint _ _ _ _ c.head.ensures e).0, c.requires), (room-joint _ _ _ _ c.head.ensures e).1)

pub read_on-requires-in-Some-Joint : goal.read_on-requires-in-Some-Joint
read_on-requires-in-Some-Joint t c =
    let long = length-joint _ _ _ _ c.head.ensures (told c.in_ok-head.was c.in-Some-Joint.is c.in-Some-Joint.field-0-is) in
    rest-asked c.args.file.now _ (omega (arith, long.1)) long.0 c.with_joint.ensures refl (c.decreases, c.requires)

pub returns-in-None : goal.returns-in-None
returns-in-None t c = read-end _ _ c.head.ensures (c.in_ok-head.was ∙ ap Ok c.in-None.is)

pub returns-in-Some-TimeStep : goal.returns-in-Some-TimeStep
returns-in-Some-TimeStep t c =
    read-time-step _ _ c.head.ensures (told c.in_ok-head.was c.in-Some-TimeStep.is c.in-Some-TimeStep.field-0-is)
    c.double_at.ensures c.with_time_step.ensures c.read_on.ensures

pub returns-in-Some-Body : goal.returns-in-Some-Body
returns-in-Some-Body t c =
    read-body _ _ c.head.ensures (told c.in_ok-head.was c.in-Some-Body.is c.in-Some-Body.field-0-is) c.with_body.ensures c.read_on-in-Some-Body.ensures

pub returns-in-Some-Joint : goal.returns-in-Some-Joint
returns-in-Some-Joint t c =
    read-joint _ _ c.head.ensures (told c.in_ok-head.was c.in-Some-Joint.is c.in-Some-Joint.field-0-is) c.with_joint.ensures c.read_on-in-Some-Joint.ensures
