-- Three stores, one behind the other (BodyLaws).
use Rattle.std.proofs.Common.{arith}
use Rattle.step.proofs.BodyLaws.{stored-fixed}
use Rattle.step.proofs.bodies.store_fixed.Goals as goal

pub returns : goal.returns
returns c = stored-fixed _ c.args.body (omega arith) c.store3.ensures c.store_mat3.ensures
