-- What was written stands.
use Rattle.std.proofs.Common.{sym, ◌∙◌}
use Rattle.rows.proofs.WriteLaws.{writes-rows}
use Rattle.rows.proofs.geometry.write_equality_rows.Goals as goal

pub returns-else-is_err : goal.returns-else-is_err
returns-else-is_err c = writes-rows _ _ _ _ c.write_kind-written.ensures (sym c.is_err.ensures.value ∙ c.if-is_err.false)
