-- Zeros and the right side, then the solve that is chosen.
use Rattle.std.proofs.Common.{◌∙◌, ap, arith}
use Rattle.std.proofs.lemmas.List.{get_or-take}
use Rattle.rows.specs.Region.{tab-ext}
use Rattle.arith.specs.Flow.{go}
use Rattle.solves.specs.View.{table_of, count_of}
use Rattle.solves.specs.DoesLaws.{counted-number}
use Rattle.solves.proofs.SearchLaws.{ready, counted-by}
use Rattle.solves.proofs.SolveLaws.{linear-least, linear-gradients, linear-path}
use Rattle.solves.proofs.joined.Rows.solve.Goals as goal

pub returns-then-cyclic : goal.returns-then-cyclic
returns-then-cyclic c =
    let n = c.count-n.ensures in
    counted-number _ c.least_squares.result _ _ _ _ _ (counted-by _ c.least_squares.ensures
    (λ y d. linear-least (table_of c.args.self.now) (ready c.args.self.now c.requires.0) _
    (rw n at c.clear.ensures) (rw n at c.copy.ensures) c.if-cyclic.true d))

pub returns-in_default : goal.returns-in_default
returns-in_default c =
    let n = c.count-n.ensures in
    counted-number _ c.gradients.result _ _ _ _ _ (counted-by _ c.gradients.ensures
    (λ y d. linear-gradients (table_of c.args.self.now) (ready c.args.self.now c.requires.0) _ (rw n at c.clear.ensures) (rw n at c.copy.ensures)
    c.if-cyclic.false c.in_default.field-0 c.in_default.ensures.is d))

pub returns : goal.returns
returns c =
    let n = c.count-n.ensures in
    let m = count_of c.args.self.now in
    counted-number _ c.path_along.result _ _ _ _ _ (counted-by _ c.path_along.ensures
    (λ y d. linear-path (table_of c.args.self.now) (ready c.args.self.now c.requires.0) _ (rw n at c.clear.ensures) (rw n at c.copy.ensures)
    c.if-cyclic.false _
    (ap go (tab-ext m (λ k h. get_or-take _ _ k 0 (omega arith))) ∙ c.in-Ok.ensures.is) d))
