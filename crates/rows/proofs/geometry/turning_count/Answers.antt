-- The rows of a cone, one for each limit that is locked.
use Rattle.std.proofs.Common.{arith}
use Rattle.rows.proofs.CountLaws.{one-as, swing-as}
use Rattle.rows.proofs.geometry.turning_count.Goals as goal

pub returns-in-Cone : goal.returns-in-Cone
returns-in-Cone c =
    let x = swing-as _ c.from.ensures in
    let y = swing-as _ c.from-in-Cone.ensures in
    let twist = one-as _ c.from-in-Cone-2.ensures in
    rw c.in-Cone.is (cc, omega arith)
