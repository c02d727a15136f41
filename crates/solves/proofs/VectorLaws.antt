-- Loops that fill a vector from two others by index; and that x - alpha d is x + (-alpha) d.
use Prim.Native.Nat.{ℕ, ◌+◌, ◌≤◌, ◌<◌}
use mathlib.Core.Path.{◌≡◌, refl, sym, ◌∙◌, ap}
use mathlib.Core.List.{List}
use native.Mathlib.Omega.{arith}
use lib.ListN.{length, set}
use lib.Ieee.{Float, nan, neg, binary64}
use Rattle.arith.specs.Flow.{tab}
use Rattle.arith.specs.Laws.Rounding.{add-neg-mul}
use Rattle.rows.specs.View.{at, Out}
use Rattle.rows.specs.Region.{kept_more, tab-ext, tab-length, is-tab}
use Rattle.solves.specs.Region.{vec_at, Filled, Does}
use Rattle.solves.specs.Solver.{plus, minus}
use Rattle.solves.specs.View.{Beside, Ahead, VECTOR, ROWS_MOST}
use Rattle.solves.specs.RegionLaws.{vec-at, filled_none, filled-vec, filled_more}

-- what is read ahead is not written yet
ahead-out : (o a k : ℕ) → Ahead o a → k < VECTOR → Out o k (a + k)
ahead-out o a k h l = omega arith

beside-out : (o k i : ℕ) → k ≤ VECTOR → Beside o i → Out o k i
beside-out o k i l x = omega arith

-- the loop after k of n turns: o has g of what stood at a and at b
pub record Sofar (g : Float → Float → Float) (o a b n : ℕ) (s : List Float) (k : ℕ) (t : List Float) : Type 0 where
  pub room : (n ≤ ROWS_MOST) × (o + VECTOR ≤ length s) × (Ahead o a) × (Ahead o b)
  pub turns : k ≤ n
  pub filled : Filled o k (λ i. g (at s (a + i)) (at s (b + i))) s t

module _ {g : Float → Float → Float} {o a b n : ℕ} where
  pub two_none : {s : List Float} → n ≤ ROWS_MOST → o + VECTOR ≤ length s → Ahead o a → Ahead o b → Sofar g o a b n s 0 s
  two_none {s} h l p q = record { room = (h, l, p, q); turns = omega arith; filled = filled_none o _ s }

  module _ {s t : List Float} {k : ℕ} (f : Sofar g o a b n s k t) where
    pub two-more : k < n → Sofar g o a b n s (k + 1) (set t (o + k) (g (at t (a + k)) (at t (b + k))))
    two-more h =
        let x = f.filled.kept.same (a + k) (ahead-out o a k f.room.2 (omega arith)) in
        let y = f.filled.kept.same (b + k) (ahead-out o b k f.room.3 (omega arith)) in
        record { room = f.room; turns = omega arith; filled = filled_more f.filled (omega arith) (cc) }

    pub two_is : n ≤ k → Does (Beside o) s t (vec_at t o n) (tab (length (vec_at s a n)) (λ i. g (at (vec_at s a n) i) (at (vec_at s b n) i)))
    two_is h =
        let same : k ≡ n = omega arith in
        record {
          kept = kept_more f.filled.kept (λ i. beside-out o k i (omega arith));
          is = ap (vec_at t o) (sym same) ∙ filled-vec f.filled ∙ tab-ext k (λ j l. pair j (omega arith))
              ∙ ap (λ (m : ℕ). tab m (λ i. g (at (vec_at s a n) i) (at (vec_at s b n) i))) (same ∙ sym (tab-length n (λ j. at s (a + j))));
        }
      where
        pair : (j : ℕ) → j < n → g (at s (a + j)) (at s (b + j)) ≡ g (at (vec_at s a n) j) (at (vec_at s b n) j)
        pair j l = cc (vec-at s a n j l, vec-at s b n j l)

-- a vector by its doubles
pub vec-tab : {l : List Float} → l ≡ tab (length l) (λ i. at l i)
vec-tab {l} = is-tab (length l) _ nan l refl (λ k h. refl)

pub plus-neg : (x : List Float) (alpha : Float) (d : List Float) → plus x (neg alpha) d ≡ minus x alpha d
unfolding plus minus
plus-neg x alpha d = tab-ext (length x) (λ i h. add-neg-mul binary64 (at x i) alpha (at d i))
