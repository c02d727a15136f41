-- A right side more, and the last.
use Rattle.std.proofs.Common.{arith}
use Rattle.solves.specs.RegionLaws.{filled_none, filled-all}
use Rattle.step.proofs.TableLaws.{rhs-more, rhs-is}
use Rattle.step.proofs.integrator.fill_rhs.Goals as goal

pub loop-k-init : goal.loop-k-init
loop-k-init c = filled_none _ _ _

pub loop-k-preserved : goal.loop-k-preserved
loop-k-preserved c = rhs-more _ c.loop-k.invariant (omega arith) (omega arith)

pub returns : goal.returns
returns c = λ ia ib. rhs-is _ _ ia ib _ (filled-all (omega arith) c.loop-k-test.false c.loop-k.invariant) c.requires
