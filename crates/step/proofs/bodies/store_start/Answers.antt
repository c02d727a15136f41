-- What moves, and then what does not: two stores, one behind the other (BodyLaws).
use Rattle.step.proofs.BodyLaws.{stored-start}
use Rattle.step.proofs.bodies.store_start.Goals as goal

pub returns : goal.returns
returns c = stored-start _ c.args.body c.store_moving.ensures c.store_fixed.ensures
