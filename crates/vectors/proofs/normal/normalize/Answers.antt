-- A length that is not finite or 0, and the vector divided by it.
use Rattle.std.proofs.Common.{rules, ap, ◌∙◌}
use Rattle.arith.specs.Literals.{literals}
use Rattle.vectors.specs.Vector.{normalize_by}
use Rattle.vectors.proofs.normal.normalize.Goals as goal

pub returns-then-not-is_finite-2 : goal.returns-then-not-is_finite-2
unfolding normalize_by
returns-then-not-is_finite-2 g c =
    let scaled = c.div-scaled.ensures ∙ ap (g.V.Normal.divided c.args.v) c.largest-scale.ensures in
    search (rules, literals)

pub returns : goal.returns
unfolding normalize_by
returns g c =
    let scaled = c.div-scaled.ensures ∙ ap (g.V.Normal.divided c.args.v) c.largest-scale.ensures in
    search (rules, literals)
