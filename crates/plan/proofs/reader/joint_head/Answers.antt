-- `joint_head`: the length of a joint's record goes by its kind.
use Rattle.plan.proofs.RecordLaws.{joint-short, joint-there}
use Rattle.plan.proofs.reader.joint_head.Goals as goal

pub returns-then-file-n : goal.returns-then-file-n
returns-then-file-n c =
    joint-short _ c.try_from.ensures c.in_ok-try_from.was _ c.if-joints-ge16.false c.if-file-lt-FRAME_A.false c.length-n.ensures c.if-file-n.true

pub returns : goal.returns
returns c =
    joint-there _ c.try_from.ensures c.in_ok-try_from.was _ c.if-joints-ge16.false c.if-file-lt-FRAME_A.false c.length-n.ensures c.if-file-n.false
