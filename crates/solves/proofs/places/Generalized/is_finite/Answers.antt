-- Where the linear half is finite, the angular half decides.
use Rattle.std.proofs.Common.{◌≡◌, rules}
use Rattle.vectors.specs.Vector.{finite_of}
use Rattle.solves.proofs.places.Generalized.is_finite.Goals as goal

pub returns-then-is_finite : goal.returns-then-is_finite
returns-then-is_finite c =
    let angular : c.is_finite-then-is_finite.result ≡ finite_of c.args.self.angular = c.is_finite-then-is_finite.ensures in
    search rules
