-- `put_ok`: two pieces one after the other.
use Rattle.std.proofs.Common.{◌∙◌}
use Rattle.report.proofs.Texts.{ok-puts}
use Rattle.report.proofs.text.Page.put_ok.Goals as goal

pub returns : goal.returns
returns c = record {
  same = c.put_counts.ensures.same ∙ c.put.ensures.same;
  puts = ok-puts _ _ c.put.ensures.puts c.put_counts.ensures.puts;
}
