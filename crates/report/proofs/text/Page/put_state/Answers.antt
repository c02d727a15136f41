-- `put_state`: one double more.
use Rattle.std.proofs.Common.{◌∙◌, arith, refl, ap}
use Rattle.report.specs.Text.{field_of}
use Rattle.report.proofs.Texts.{from-at, numbers-none, numbers-room, fields-puts, puts-as}
use Rattle.report.proofs.text.Page.put_state.Goals as goal

pub loop-x-init : goal.loop-x-init
loop-x-init c = record { same = refl; puts = numbers-none c.args.bodies.now _ c.requires.0 }

pub put_field-requires : goal.put_field-requires
put_field-requires c = numbers-room c.args.bodies.now _ c.requires.0 _ c.loop-x.invariant.puts (omega (arith, c.loop-x-test.true))

pub loop-x-preserved : goal.loop-x-preserved
loop-x-preserved c = record {
  same = c.put_field.ensures.same ∙ c.loop-x.invariant.same;
  puts =
      fields-puts c.args.bodies.now _ c.requires.0 _ c.loop-x.invariant.puts
      (puts-as (ap field_of (from-at c.args.bodies.now c.args.from _ _ (omega (arith, c.requires.1)) c.loop-x-test.true)) c.put_field.ensures.puts);
}
