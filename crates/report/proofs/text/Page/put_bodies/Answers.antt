-- `put_bodies`: one line more.
use Rattle.std.proofs.Common.{arith, refl, ◌∙◌}
use Rattle.report.proofs.Texts.{lines_none, lines-room, lines-puts}
use Rattle.report.proofs.text.Page.put_bodies.Goals as goal

pub loop-i-init : goal.loop-i-init
loop-i-init c = record { same = refl; puts = lines_none c.args.bodies.now _ c.requires.0 }

pub put_body-requires : goal.put_body-requires
put_body-requires c = (
  lines-room c.args.bodies.now _ c.requires.0 _ c.loop-i.invariant.puts c.loop-i-test.true,
  omega (arith, c.requires.1, c.loop-i-test.true),
)

pub loop-i-preserved : goal.loop-i-preserved
loop-i-preserved c = record {
  same = c.put_body.ensures.same ∙ c.loop-i.invariant.same;
  puts = lines-puts c.args.bodies.now _ c.requires.0 _ c.loop-i.invariant.puts c.put_body.ensures.puts;
}
