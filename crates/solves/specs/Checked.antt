-- The shares of `transpose` tested once, when all rows are in. In `Solver` each is tested as it is pushed; what is not finite stays so, so that the
-- answer is the same (proofs/CheckedLaws). Only contracts of private functions cite this file.
use Rattle.std.specs.Prelude.{Bool, cond, ◌&&◌, List, length, Float}
use Rattle.arith.specs.Flow.{go, stop, ◌>>=◌, every}
use Rattle.vectors.specs.declared.vector.Vec3.{Vec3}
use Rattle.vectors.specs.Vector.{add_of, scale_of, finite_of}
use Rattle.rows.specs.Fault.{ArithmeticOverflow, Result}
use Rattle.solves.specs.declared.places.Generalized.{Generalized}
use Rattle.solves.specs.Solver.{generalized_in}

-- `pushed` without its tests
abbrev pub added : Generalized → Vec3 → Vec3 → Float → Generalized
added body linear angular value = record {
  linear = add_of body.linear (scale_of linear value);
  angular = add_of body.angular (scale_of angular value);
}

abbrev pub finite_share : Generalized → Bool
finite_share g = finite_of g.linear && finite_of g.angular

abbrev pub all_finite : List Generalized → Bool
all_finite out = every (length out) (λ k. finite_share (generalized_in out k))

abbrev pub checked : List Generalized → Result (List Generalized)
checked out = cond (all_finite out) (go out) (stop ArithmeticOverflow)

-- a change of the shares, after that test
abbrev pub checked_then : (List Generalized → Result (List Generalized)) → List Generalized → Result (List Generalized)
checked_then f out = checked out >>= f
