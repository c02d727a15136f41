-- The answer is to the bytes that came.
use Rattle.std.proofs.Common.{arith, sym, ap, ◌∙◌, take}
use Rattle.report.specs.Pose.{fresh}
use Rattle.report.specs.PoseLaws.{pose-whole}
use Rattle.pose.specs.Reply.{answer_to}
use Rattle.pose.proofs.reply_to.Goals as goal

pub returns-in-Ok : goal.returns-in-Ok
returns-in-Ok c =
    let bytes = c.args.input.now.bytes in
    pose-whole (take c.in-Ok.n bytes) fresh _ (omega arith) c.pose-count.ensures.value c.pose-count.ensures.out_after
    ∙ ap (answer_to bytes) (sym c.in-Ok.is)
