-- What turns freely has no row.
use Rattle.std.proofs.Common.{refl, arith}
use Rattle.rows.proofs.AppendLaws.{begun, written}
use Rattle.rows.proofs.geometry.Basis.write_turning.Goals as goal

pub returns-in-Free : goal.returns-in-Free
returns-in-Free c = rw c.in-Free.is (written (begun _ _ _) (omega arith) refl)
