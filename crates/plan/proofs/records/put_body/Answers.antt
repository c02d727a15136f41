-- The doubles that the loop wrote are the body's, pasted in.
use Rattle.std.proofs.Common.{◌≡◌, ◌≤◌, length, arith}
use Rattle.std.proofs.lemmas.Slice.{put_mid-paste}
use Rattle.plan.specs.File.{body_of}
use Rattle.plan.proofs.RecordLaws.{body-length, body-is}
use Rattle.plan.proofs.records.put_body.Goals as goal

pub returns : goal.returns
returns c =
    let long : length c.loop-i.x-items ≡ 26 = grind arith in
    let whole : 26 ≤ c.loop-i.i = grind arith in
    put_mid-paste _ _ _ _ (body_of c.args.file.now) 26 (body-is c.args.file.now long (λ k h. c.loop-i.invariant k (omega arith))) (omega arith)
    (body-length c.args.file.now)
