-- `put_no`: four pieces one after the other.
use Rattle.std.proofs.Common.{◌∙◌}
use Rattle.report.proofs.Texts.{no-after-number, no-after-space, no-puts}
use Rattle.report.proofs.text.Page.put_no.Goals as goal

pub put-requires-2 : goal.put-requires-2
put-requires-2 c = no-after-number c.requires c.put.ensures.puts _ c.put_decimal.ensures.puts

pub put_counts-requires : goal.put_counts-requires
put_counts-requires c = no-after-space c.requires c.put.ensures.puts _ c.put_decimal.ensures.puts c.put-2.ensures.puts

pub returns : goal.returns
returns c = record {
  same = c.put_counts.ensures.same ∙ c.put-2.ensures.same ∙ c.put_decimal.ensures.same ∙ c.put.ensures.same;
  puts = no-puts c.requires c.put.ensures.puts _ c.put_decimal.ensures.puts c.put-2.ensures.puts _ _ c.put_counts.ensures.puts;
}
