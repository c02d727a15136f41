-- A guess that passes the check is the root.
use Rattle.std.proofs.lemmas.Float.{T_from_true}
use Rattle.arith.proofs.NearOne.{root-of-digits}
use Rattle.arith.proofs.near_one.root_near_one.Goals as goal

pub returns-then-is_nearest : goal.returns-then-is_nearest
returns-then-is_nearest c =
    root-of-digits _ (search T_from_true) (search T_from_true)
    c.if-b-eq1023.true c.if-n-eq1023.true (c.is_nearest.ensures c.if-is_nearest.true)
