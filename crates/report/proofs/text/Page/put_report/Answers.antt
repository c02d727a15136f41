-- `put_report`: the first line and the bodies of an accepted step, or the line of a refusal.
use Rattle.std.proofs.Common.{◌∙◌, arith}
use Rattle.report.proofs.Texts.{bodies-room, accepted-puts, refused-puts}
use Rattle.report.proofs.text.Page.put_report.Goals as goal

pub put_bodies-requires : goal.put_bodies-requires
put_bodies-requires c = (bodies-room c.in-Ok.bodies.now _ _ (rw c.in-Ok.is at c.requires) c.put_ok.ensures.puts, omega arith)

pub returns-in-Ok : goal.returns-in-Ok
returns-in-Ok c = record {
  same = c.put_bodies.ensures.same ∙ c.put_ok.ensures.same;
  puts = rw c.in-Ok.is (accepted-puts c.in-Ok.bodies.now _ _ (rw c.in-Ok.is at c.requires) c.put_ok.ensures.puts c.put_bodies.ensures.puts);
}

pub returns-in-Err : goal.returns-in-Err
returns-in-Err c = record { same = c.put_no.ensures.same; puts = rw c.in-Err.is (refused-puts _ _ _ c.put_no.ensures.puts) }
