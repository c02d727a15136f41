-- What the sum so far makes with the coefficients that are left is the whole sum.
use Rattle.std.proofs.Common.{◌≡◌, drop}
use Rattle.arith.specs.Angle.{horner}
use Rattle.arith.proofs.angle.horner.Given as goal

abbrev pub invariant-loop-coefficient : goal.invariant-loop-coefficient
invariant-loop-coefficient l = horner l.z l.sum (drop l.coefficient-index l.rest) ≡ horner l.z l.highest l.rest
