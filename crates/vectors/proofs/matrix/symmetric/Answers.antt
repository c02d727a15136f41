-- The last pair decides where the first two are even.
use Rattle.std.specs.Prelude.{◌≡◌, Bool, true, false, not, ◌||◌}
use Rattle.std.proofs.Common.{arith, sym, ◌∙◌}
use Rattle.vectors.proofs.matrix.symmetric.Goals.{then-not-uneven, else-not-uneven}
use Rattle.vectors.proofs.matrix.symmetric.Goals as goal

last-decides : {first second last tested answer : Bool} → first ≡ false → tested ≡ second → true ≡ not tested → answer ≡ last
    → not answer ≡ not (first || second || last)
last-decides {first} {second} {last} {tested} {answer} e f g h = grind arith

pub returns-then-not-uneven-2 : goal.returns-then-not-uneven-2
returns-then-not-uneven-2 c = elim c.if-not-uneven.branch [
  | then-not-uneven w ↦ last-decides (sym c.uneven.ensures ∙ w.if-not-uneven.true) w.uneven-then-not-uneven.ensures
      (sym c.if-not-uneven-2.true ∙ w.value-is) c.uneven-then-not-uneven-2.ensures
  | else-not-uneven w ↦ absurd (cc)
]
