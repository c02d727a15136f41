-- A body is noted where the notes end.
use Rattle.std.proofs.Common.{◌≡◌, refl}
use Rattle.plan.specs.Noting.{with_place}
use Rattle.plan.proofs.reader.Notes.with_body.Goals as goal

pub returns : goal.returns
returns c =
    let noted : c.with-bodies.result ≡ with_place c.args.self.at c.args.self.bodies = c.with-bodies.ensures in
    rw noted refl
