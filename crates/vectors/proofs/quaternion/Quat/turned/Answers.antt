-- In the first cross product the axis stands on the left.
use Rattle.std.proofs.Common.{rules, ap, ◌∙◌}
use Rattle.arith.specs.Literals.{literals}
use Rattle.vectors.specs.declared.vector.Vec3.{Vec3}
use Rattle.vectors.specs.Vector.{cross_of}
use Rattle.vectors.proofs.quaternion.Quat.turned.Goals as goal

pub returns : goal.returns
returns c =
    let first = c.cross-first_cross.ensures ∙ ap (λ (u : Vec3). cross_of u c.args.vector) c.new-vector_part.ensures in
    search (rules, literals)
