-- The Z axes lead apart, or they do not.
use Rattle.std.proofs.Common.{rules, ◌≡◌, true, false}
use Rattle.std.specs.Prelude.{◌^◌}
use Rattle.arith.specs.Flow.{and_then}
use Rattle.arith.specs.Literals.{literals, ten_to_minus_10}
use Rattle.rows.specs.Words.{le, ratio, dot_of}
use Rattle.rows.specs.Geometry.{aligned_of}
use Rattle.rows.proofs.UnitLaws.{rotate_is}
use Rattle.rows.proofs.geometry.Basis.aligned.Goals as goal

pub returns-then-dot : goal.returns-then-dot
unfolding aligned_of and_then
returns-then-dot c =
    let apart : le (dot_of c.in_ok-za.za c.in_ok-z.z) (ratio 1 (10 ^ 10)) ≡ true = rw (← c.dot.ensures, ← ten_to_minus_10) c.if-dot.true in
    search (rules, rotate_is, literals)

pub returns : goal.returns
unfolding aligned_of and_then
returns c =
    let near : le (dot_of c.in_ok-za.za c.in_ok-z.z) (ratio 1 (10 ^ 10)) ≡ false = rw (← c.dot.ensures, ← ten_to_minus_10) c.if-dot.false in
    search (rules, rotate_is, literals)
