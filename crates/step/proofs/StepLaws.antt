-- What the loops of a run keep: lengths, the bodies of rows, how many rows a joint has.
use Prim.Native.Nat.{ℕ, ◌+◌, ◌≤◌, ◌<◌}
use mathlib.Core.Path.{◌≡◌, sym, subst}
use mathlib.Core.List.{List}
use native.Mathlib.Omega.{arith}
use native.Mathlib.Decide.{dec_le}
use lib.ListN.{get_or}
use lib.Ieee.{Float}
use Rattle.rows.specs.declared.body.MomentumBody.{MomentumBody}
use Rattle.rows.specs.declared.geometry.Joint.{Joint}
use Rattle.rows.specs.declared.geometry.Kind.{Kind}
use Rattle.std.specs.Prelude.{Ok}
use Rattle.rows.specs.Fault.{Result}
use Rattle.rows.specs.Answer.{Writes}
use Rattle.rows.specs.Region.{count_most}
use Rattle.rows.specs.Count.{row_count}
use Rattle.step.specs.Joined.{Spread}

-- a joint has at most six rows
pub kind-most : (kind : Kind) {m : ℕ} → m ≡ row_count kind → m ≤ 6
kind-most kind e = omega (arith, count_most kind)

pub written-most : {joint : Joint} {a b : MomentumBody} {i : ℕ} {s t : List Float} {r : Result ℕ} → Writes joint a b i s t r → (n : ℕ)
    → r ≡ Ok n → n ≤ 6
written-most {joint} w n e = omega (arith, w.count n e, count_most joint.kind)

-- all bodies of the rows so far are below body-count
pub spread-less : {from n body body-count : ℕ} {s t : List ℕ} → Spread from n body s t → ((j : ℕ) → j < from → get_or s j 0 < body-count) → body < body-count
    → (j : ℕ) → j < from + n → get_or t j 0 < body-count
spread-less {from} {n} {body} {body-count} {s} {t} p h b j l = case (dec_le from j)
  where
    case : Dec (from ≤ j) → get_or t j 0 < body-count
    case (yes q) = subst (λ (x : ℕ). x < body-count) (sym (p.here j q l)) b
    case (no q) = subst (λ (x : ℕ). x < body-count) (sym (p.before j (omega arith))) (h j (omega arith))
