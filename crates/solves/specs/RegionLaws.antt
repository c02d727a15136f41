-- Laws of `Region`: vectors that a write keeps, changes in one place or fills.
use Rattle.std.specs.Prelude.{ℕ, ◌+◌, ◌≤◌, ◌<◌, ◌≡◌, List, [], ◌∷◌, ◌++◌, length, set, Float}
use Rattle.std.proofs.Common.{sym, ◌∙◌, ap, arith, get_or-set_same}
use Rattle.std.specs.Float.{nan}
use Rattle.arith.specs.Flow.{tab}
use Rattle.rows.specs.View.{at, Kept}
use Rattle.rows.specs.Region.{tab-ext, tab-at, tab-set, tab-more, kept_set, Over}
pub use Rattle.rows.specs.Region.{filled_none, filled_more, filled-all}
use Rattle.solves.specs.Region.{vec_at, Filled}

-- one element read is one element of the view
pub vec-at : (s : List Float) (place n k : ℕ) → k < n → at s (place + k) ≡ at (vec_at s place n) k
vec-at s place n k h = sym (tab-at n (λ j. at s (place + j)) nan k h)

module _ {P : ℕ → Type 0} {s t : List Float} (kept : Kept P s t) where
  pub kept-vec : (place n : ℕ) → Over P place n → vec_at t place n ≡ vec_at s place n
  kept-vec place n w = tab-ext n λ k h. kept.same (place + k) (w (place + k) (omega arith) (omega arith))

  pub vec_in : (place n k : ℕ) {v : Float} → Over P place n → k < n → v ≡ at t (place + k) → v ≡ at (vec_at s place n) k
  vec_in place n k w h e = e ∙ vec-at t place n k h ∙ ap (λ (l : List Float). at l k) (kept-vec place n w)

-- The k-th double of a vector, written: the vector with it set; or, read so far, one longer.
pub vec-set : (s : List Float) (place n k : ℕ) (v : Float) → k < n → place + n ≤ length s → vec_at (set s (place + k) v) place n ≡ set (vec_at s place n) k v
vec-set s place n k v h l =
    sym (ap (set (vec_at s place n) k) (sym here) ∙ tab-set n _ _ nan k h λ j q r. (kept_set s (place + k) v).same (place + j) (omega arith))
  where
    here : at (set s (place + k) v) (place + k) ≡ v
    here = get_or-set_same s (place + k) v nan (omega arith)

pub vec-more : (s : List Float) (place k : ℕ) (v : Float) → place + k < length s → vec_at (set s (place + k) v) place (k + 1) ≡ vec_at s place k ++ (v ∷ [])
vec-more s place k v h = tab-more k (λ i l. (kept_set s (place + k) v).same (place + i) (omega arith)) (get_or-set_same s (place + k) v nan h)

-- A loop that fills, read as a vector when it is over.
pub filled-vec : {place n : ℕ} {f : ℕ → Float} {s t : List Float} → Filled place n f s t → vec_at t place n ≡ tab n f
filled-vec {place} {n} fill = tab-ext n (λ k h. fill.there k h)
