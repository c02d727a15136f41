-- `fill`: one more read.
use Rattle.std.proofs.Common.{◌<◌, length, rules, arith}
use Rattle.streams.proofs.Readings.{rest-more, bytes-more, rest-fails, bytes-fails}
use Rattle.streams.proofs.fill.Goals as goal

pub loop-count-preserved : goal.loop-count-preserved
loop-count-preserved g c =
    let read = c.in-Ok.ensures in
    let before = c.loop-count.invariant in
    record {
      size = search rules;
      within = search rules;
      rest = rest-more _ _ _ _ before.within _ before.rest read.rest;
      bytes = bytes-more c.args.buffer.now _ _ _ before.within _ _ _ _ before.bytes read.bytes.0;
      none = λ e. absurd (omega arith);
    }

-- a failed read stops it before the buffer is full
pub returns-in-Err-clause-receives : goal.returns-in-Err-clause-receives
returns-in-Err-clause-receives g c =
    let read = c.in-Err.ensures in
    let before = c.loop-count.invariant in
    let more : c.loop-count.count < length c.args.buffer.now = omega arith in
    record {
      size = search rules;
      bytes = bytes-fails c.args.buffer.now _ _ _ before.within _ _ _ before.bytes read.bytes;
      rest = rest-fails _ _ _ _ before.within before.rest read.rest;
      early = more;
    }

-- and so does one that brought nothing
pub returns-in-Ok-eq0-clause-told : goal.returns-in-Ok-eq0-clause-told
returns-in-Ok-eq0-clause-told g c =
    let read = c.in-Ok-eq0.ensures in
    λ less. (c.loop-count.from, rw c.in-Ok-eq0.field-0-test at read.told)
