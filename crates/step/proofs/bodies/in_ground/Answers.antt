use Rattle.std.proofs.Common.{rules, arith, refl, ℕ, Bool}
use Rattle.std.proofs.lemmas.Iterator.{YieldsList-from_range}
use Rattle.std.specs.Prelude.{◌+◌, ◌*◌}
use Rattle.arith.specs.Real.{ratio}
use Rattle.arith.specs.Literals.{literals}
use Rattle.rows.specs.View.{vec3_at}
use Rattle.step.specs.Layout.{CANDIDATE, MOVING}
use Rattle.step.specs.Checks.{within_of}
use Rattle.arith.specs.ChainLaws.{every-counted}
use Rattle.step.proofs.bodies.in_ground.Goals as goal

pub returns : goal.returns
returns c =
    let test : ℕ → Bool = λ k. within_of (vec3_at c.args.s.now (CANDIDATE + MOVING * k)) (ratio 8192 1) in
    let n : ℕ = c.args.body_count in
    every-counted _ test n c.all.ensures.ran (YieldsList-from_range 0 n n refl (omega arith)) (λ k b q h. search (rules, literals))
