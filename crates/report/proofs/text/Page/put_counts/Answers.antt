-- `put_counts`: four pieces one after the other.
use Rattle.std.proofs.Common.{◌∙◌}
use Rattle.report.proofs.Texts.{counts-after-first, counts-after-space, counts-after-second, counts-puts}
use Rattle.report.proofs.text.Page.put_counts.Goals as goal

pub put-requires : goal.put-requires
put-requires c = counts-after-first _ c.requires c.put_decimal.ensures.puts

pub put_decimal-requires-2 : goal.put_decimal-requires-2
put_decimal-requires-2 c = counts-after-space _ c.requires c.put_decimal.ensures.puts c.put.ensures.puts

pub put-requires-2 : goal.put-requires-2
put-requires-2 c = counts-after-second _ c.requires c.put_decimal.ensures.puts c.put.ensures.puts _ c.put_decimal-2.ensures.puts

pub returns : goal.returns
returns c = record {
  same = c.put-2.ensures.same ∙ c.put_decimal-2.ensures.same ∙ c.put.ensures.same ∙ c.put_decimal.ensures.same;
  puts = counts-puts _ c.requires c.put_decimal.ensures.puts c.put.ensures.puts _ c.put_decimal-2.ensures.puts c.put-2.ensures.puts;
}
