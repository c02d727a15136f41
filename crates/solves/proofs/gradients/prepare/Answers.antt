-- A row more, the first whose entry is refused, and the last.
use Rattle.std.proofs.Common.{arith}
use Rattle.arith.specs.Laws.Constants.{zero_is}
use Rattle.solves.proofs.OperatorLaws.{on-a, on-b}
use Rattle.solves.proofs.SearchLaws.{ready}
use Rattle.solves.proofs.GradientLaws.{prepared-none, prepared-wild, prepared-small, prepared_again, prepared-ends}
use Rattle.solves.proofs.gradients.prepare.Goals as goal
use Rattle.solves.proofs.gradients.prepare.Goals.{then-not-is_finite-via-then-not-is_finite, then-not-is_finite-via-else-not-is_finite+then-d}

pub loop-k-init : goal.loop-k-init
loop-k-init c = prepared-none (ready c.args.rows.now c.requires) _ zero_is

pub load_mass-ma-requires : goal.load_mass-ma-requires
load_mass-ma-requires c =
    omega (arith, on-a (ready c.args.rows.now c.requires) (omega arith) c.loop-k.s c.load-row.ensures)

pub load_mass-mb-requires : goal.load_mass-mb-requires
load_mass-mb-requires c =
    omega (arith, on-b (ready c.args.rows.now c.requires) (omega arith) c.loop-k.s c.load-row.ensures)

pub returns-then-not-is_finite : goal.returns-then-not-is_finite
returns-then-not-is_finite c = elim c.then-not-is_finite.branch [
  | then-not-is_finite-via-then-not-is_finite w ↦
      prepared-wild (ready c.args.rows.now c.requires) _ c.loop-k.invariant (omega arith) c.loop-k.auto.s c.load-row.ensures
      c.load_mass-ma.ensures c.load_mass-mb.ensures c.diagonal_entry-d.ensures c.is_finite.ensures zero_is w.if-not-is_finite.true
  | then-not-is_finite-via-else-not-is_finite+then-d w ↦
      prepared-small (ready c.args.rows.now c.requires) _ c.loop-k.invariant (omega arith) c.loop-k.auto.s c.load-row.ensures
      c.load_mass-ma.ensures c.load_mass-mb.ensures c.diagonal_entry-d.ensures c.is_finite.ensures zero_is w.if-not-is_finite.false w.if-d.true
]

pub loop-k-preserved : goal.loop-k-preserved
loop-k-preserved c =
    prepared_again (ready c.args.rows.now c.requires) _ c.loop-k.invariant (omega arith) c.loop-k.auto.s c.load-row.ensures
    c.load_mass-ma.ensures c.load_mass-mb.ensures c.diagonal_entry-d.ensures c.is_finite.ensures zero_is c.if-not-is_finite.false c.if-d.false

pub returns : goal.returns
returns c = prepared-ends (ready c.args.rows.now c.requires) _ c.loop-k.invariant (omega arith) (omega arith)
