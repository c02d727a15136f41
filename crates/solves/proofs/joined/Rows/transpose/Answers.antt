-- A row more, and one test of all shares.
use Rattle.std.proofs.Common.{refl, sym, ◌∙◌, arith}
use Rattle.arith.specs.FlowLaws.{cond_yes, cond_no}
use Rattle.solves.specs.DoesLaws.{does-go, does-fail}
use Rattle.solves.proofs.OperatorLaws.{on-a, on-b, transpose_none, transpose-again, transpose-ends, transpose-from}
use Rattle.solves.proofs.SearchLaws.{ready}
use Rattle.solves.proofs.joined.Rows.transpose.Goals as goal

pub loop-k-init : goal.loop-k-init
loop-k-init c = transpose_none (ready c.args.self.now c.requires.0) c.requires.1 _ c.clear.ensures

pub push_row-requires : goal.push_row-requires
push_row-requires c =
    let here = ready c.args.self.now c.requires.0 in
    (omega arith, omega (arith, on-a here (omega arith) _ c.load-row.ensures), omega (arith, on-b here (omega arith) _ c.load-row.ensures))

pub loop-k-preserved : goal.loop-k-preserved
loop-k-preserved c =
    transpose-again (ready c.args.self.now c.requires.0) c.requires.1 _ c.loop-k.invariant (omega arith) c.load-row.ensures refl c.push_row.ensures

pub returns-then-not-shares_finite : goal.returns-then-not-shares_finite
returns-then-not-shares_finite c =
    does-fail (transpose-from (ready c.args.self.now c.requires.0) c.requires.1 _ c.clear.ensures
    (transpose-ends (ready c.args.self.now c.requires.0) c.requires.1 _ (cond_no _ _ (sym c.shares_finite.ensures ∙ c.if-not-shares_finite.true))
    c.loop-k.invariant (omega arith) (omega arith)))

pub returns : goal.returns
returns c =
    does-go (transpose-from (ready c.args.self.now c.requires.0) c.requires.1 _ c.clear.ensures
    (transpose-ends (ready c.args.self.now c.requires.0) c.requires.1 _ (cond_yes _ _ (sym c.shares_finite.ensures ∙ c.if-not-shares_finite.false))
    c.loop-k.invariant (omega arith) (omega arith)))
