-- The number of epsilons, and the least tolerance.
use Rattle.std.proofs.Common.{rules, ◌≡◌}
use Rattle.std.specs.Prelude.{◌^◌}
use Rattle.arith.specs.Flow.{and_then}
use Rattle.arith.specs.Literals as Literals
use Rattle.rows.specs.Words.{max_of, ratio, ◌⊕◌, ◌⊗◌}
use Rattle.rows.specs.Geometry.{tolerance_of, epsilon}
use Rattle.rows.proofs.geometry.tolerance.Goals as goal

pub returns : goal.returns
unfolding tolerance_of and_then
returns c =
    let value : c.max.result ≡ max_of (ratio 32 1 ⊗ epsilon ⊗ (c.in_ok-la.la ⊕ c.in_ok-lb.lb)) (ratio 1 (10 ^ 13)) =
    rw (← Literals.thirty_two, ← Literals.epsilon, ← Literals.ten_to_minus_13) c.max.ensures in
    search rules
