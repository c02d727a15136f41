use Rattle.std.proofs.Common.{rules, arith, refl, ◌∙◌, ℕ, Bool}
use Rattle.std.proofs.lemmas.Iterator.{YieldsList-from_range}
use Rattle.step.proofs.TableLaws.{met_at, met-is}
use Rattle.arith.specs.ChainLaws.{every-counted}
use Rattle.step.proofs.integrator.rows_met.Goals as goal

pub returns : goal.returns
returns c = λ ia ib.
    let test : ℕ → Bool = met_at c.args.s.now c.args.n ia ib in
    every-counted _ test c.args.n c.all.ensures.ran (YieldsList-from_range 0 c.args.n c.args.n refl (omega arith)) (λ k b q h. search rules)
    ∙ met-is c.args.s.now c.args.n ia ib
