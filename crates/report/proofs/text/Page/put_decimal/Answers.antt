-- `put_decimal`: the digits that `io::decimal` gives are the text.
use Rattle.report.proofs.Texts.{decimal-text, puts-as}
use Rattle.report.proofs.text.Page.put_decimal.Goals as goal

pub returns : goal.returns
returns c = record {
  same = c.put.ensures.same;
  puts = search (puts-as, decimal-text);
}
