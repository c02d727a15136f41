-- Both ends of a against both of b, if the sum is finite.
use Rattle.arith.specs.Laws.Constants.{zero_is}
use Rattle.solves.proofs.OperatorLaws.{cross-is}
use Rattle.solves.proofs.operator.cross_mass.Goals as goal

pub returns : goal.returns
returns c n a b = cross-is _ _ _ zero_is (c.cross_end-half.ensures n a) (c.cross_end.ensures n b) c.finite_number.ensures
