-- `joint_at`: the record is there to its end.
use Rattle.plan.proofs.RecordLaws.{kind-there}
use Rattle.plan.proofs.records.joint_at.Goals as goal

pub kind_at-requires : goal.kind_at-requires
kind_at-requires c = kind-there c.args.file.now c.try_from.ensures c.unwrap-kind.ensures c.requires
