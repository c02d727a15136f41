-- `put_body`: three pieces one after the other.
use Rattle.std.proofs.Common.{◌∙◌, arith}
use Rattle.report.proofs.Texts.{line-after-index, line-after-state, line-puts}
use Rattle.report.proofs.text.Page.put_body.Goals as goal

pub put_state-requires : goal.put_state-requires
put_state-requires c = (line-after-index c.args.bodies.now _ c.requires.0 c.put_decimal.ensures.puts, omega (arith, c.requires.1))

pub put-requires : goal.put-requires
put-requires c = line-after-state c.args.bodies.now _ c.requires.0 c.put_decimal.ensures.puts c.put_state.ensures.puts

pub returns : goal.returns
returns c = record {
  same = c.put.ensures.same ∙ c.put_state.ensures.same ∙ c.put_decimal.ensures.same;
  puts = line-puts c.args.bodies.now _ c.requires.0 c.put_decimal.ensures.puts c.put_state.ensures.puts c.put.ensures.puts;
}
