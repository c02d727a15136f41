-- Loops that fill places of the scratch, one of f 0?, f 1?, .. in each: before turn k stands `Does P s₀ s (go (tab k (view s))) (each k f)`.
-- `m` is how the definition writes n.
use Prim.Native.Nat.{ℕ, ◌+◌, ◌≤◌, ◌<◌}
use mathlib.Core.Path.{◌≡◌, ◌∙◌, ap}
use mathlib.Core.List.{List}
use native.Mathlib.Omega.{arith}
use lib.ListN.{length, set}
use lib.Ieee.{Float}
use Rattle.arith.specs.Flow.{go, stop, tab, each}
use Rattle.arith.specs.FlowLaws.{each_none, each_more, each-stop, each-end}
use Rattle.rows.specs.Fault.{CollisionError, Result}
use Rattle.rows.specs.View.{Out, Kept}
use Rattle.rows.specs.Region.{tab-more, kept_refl, kept_set, kept_then, kept_more}
use Rattle.solves.specs.Region.{vec_at, Does}
use Rattle.solves.specs.RegionLaws.{vec-more}

module _ {A : Type 0} (view : List Float → ℕ → A) (f : ℕ → Result A) (s₀ : List Float) where
  pub so-none : {P : ℕ → Type 0} → Does P s₀ s₀ (go (tab 0 (view s₀))) (each 0 f)
  unfolding tab
  so-none {P} = record { kept = kept_refl P s₀; is = each_none f }

  module _ {P : ℕ → Type 0} (k : ℕ) (s : List Float) (so : Does P s₀ s (go (tab k (view s))) (each k f)) (R : ℕ → Type 0) (w : (i : ℕ) → R i → P i) where
    pub so-more : {Q : ℕ → Type 0} {t : List Float} {x : A} → Kept Q s t → ((i : ℕ) → R i → Q i) → ((i : ℕ) → i < k → view t i ≡ view s i)
        → view t k ≡ x → go x ≡ f k → Does R s₀ t (go (tab (k + 1) (view t))) (each (k + 1) f)
    so-more {Q} {t} {x} kept v same here e =
        record { kept = kept_then (kept_more so.kept w) kept v; is = ap go (tab-more k same here) ∙ each_more f so.is e }

    -- f fails, and whatever was written meanwhile is outside of R
    pub so-stop : {n m : ℕ} {Q : ℕ → Type 0} {t : List Float} {e : CollisionError} → n ≡ m → k < n → Kept Q s t → ((i : ℕ) → R i → Q i) → stop e ≡ f k
        → Does R s₀ t (stop e) (each m f)
    so-stop {n} {m} {Q} {t} {e} q h kept v g =
        record { kept = kept_then (kept_more so.kept w) kept v; is = each-stop f m (let l : k < m = omega arith in l) so.is g }

    pub so-end : (n : ℕ) {m : ℕ} → n ≡ m → k ≤ n → n ≤ k → Does R s₀ s (go (tab n (view s))) (each m f)
    so-end n {m} q a b =
        let same : n ≡ k = omega arith in
        record { kept = kept_more so.kept w; is = ap (λ (j : ℕ). go (tab j (view s))) same ∙ each-end f (omega arith) (omega arith) so.is }

-- one more number, stored in its place
pub so-put : (place : ℕ) (f : ℕ → Result Float) (s₀ : List Float) {P : ℕ → Type 0} (k : ℕ) (s : List Float)
    → Does P s₀ s (go (vec_at s place k)) (each k f) → (R : ℕ → Type 0) → ((i : ℕ) → R i → P i)
    → (x : Float) → ((i : ℕ) → R i → Out (place + k) 1 i) → place + k < length s → go x ≡ f k → Does R s₀ (set s (place + k) x)
    (go (vec_at (set s (place + k) x) place (k + 1))) (each (k + 1) f)
so-put place f s₀ k s so R w x v h e =
    record { kept = kept_then (kept_more so.kept w) (kept_set s (place + k) x) v; is = ap go (vec-more s place k x h) ∙ each_more f so.is e }
