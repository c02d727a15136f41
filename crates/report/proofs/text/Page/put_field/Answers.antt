-- `put_field`: a space, then the digits that `io::hex` gives.
use Rattle.std.proofs.Common.{◌∙◌}
use Rattle.report.proofs.Texts.{hex-puts}
use Rattle.report.proofs.text.Page.put_field.Goals as goal

pub returns : goal.returns
returns c = record {
  same = c.put-2.ensures.same ∙ c.put.ensures.same;
  puts = search hex-puts;
}
