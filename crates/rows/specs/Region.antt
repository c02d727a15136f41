-- Laws of places, for this crate and those above: lists by index, and the views that a write keeps.
use Prim.Native.Nat.{ℕ, zero, suc, ◌+◌, ◌≤◌, ◌<◌}
use Rattle.std.specs.Prelude.{◌≡◌, Bool, true, false, Float, length, set}
use Rattle.std.proofs.Math.Path.{refl, ap}
use Rattle.std.proofs.Common.{sym, ◌∙◌, length-set, ext_get_or, get_or-set_same, get_or-set_other}
use mathlib.Core.List.{List, [], ◌∷◌, ◌++◌}
use Rattle.std.proofs.Math.Numerals.{add-one}
use native.Mathlib.Omega.{arith}
use Rattle.std.proofs.Math.Decide.{ℕ_discrete}
use Rattle.std.specs.Float.{nan}
use Rattle.std.proofs.Math.ListN.{get_or, length-append, get_or-append}
use mathlib.Core.List.{append-nil, append_assoc}
use Rattle.std.proofs.lemmas.List.{get_or_at}
use Rattle.arith.specs.Flow.{tab}
use Rattle.vectors.specs.declared.vector.Vec3.{Vec3}
use Rattle.rows.specs.declared.geometry.Kind.{Kind}
use Rattle.rows.specs.declared.geometry.Linear.{Linear}
use Rattle.rows.specs.declared.geometry.Linear.TheVariants.{Point, Line, Plane}
use Rattle.rows.specs.declared.geometry.Turning.{Turning}
use Rattle.rows.specs.declared.geometry.Turning.TheVariants as Turns
use Rattle.rows.specs.declared.geometry.Motions.{Motions}
use Rattle.rows.specs.declared.geometry.Motions.TheVariants.{Rod, Frame}
use Rattle.rows.specs.Motions.{motions_of}
use Rattle.rows.specs.Geometry.{swing_locked, twist_locked}
use Rattle.rows.specs.Count.{one_if, linear_count, turning_count, motion_count, row_count}
use Rattle.rows.specs.View.{at, vec3_at, row_at, Out, Kept}
use Rattle.rows.specs.Append.{Filled}

module _ {A : Type 0} where
  pub tab-length : (n : ℕ) (f : ℕ → A) → length (tab n f) ≡ n
  unfolding tab
  tab-length zero f = refl
  tab-length (suc k) f = length-append (tab k f) (f k ∷ []) ∙ ap (λ (m : ℕ). m + 1) (tab-length k f) ∙ add-one k

  pub tab-ext : (n : ℕ) {f g : ℕ → A} → ((k : ℕ) → k < n → f k ≡ g k) → tab n f ≡ tab n g
  unfolding tab
  tab-ext zero h = refl
  tab-ext (suc n) {f} {g} h =
      let e : tab n f ≡ tab n g = tab-ext n (λ k l. h k (omega arith)) in
      let x : f n ≡ g n = h n (omega arith) in
      cc

  pub tab-at : (n : ℕ) (f : ℕ → A) (d : A) (k : ℕ) → k < n → get_or (tab n f) k d ≡ f k
  unfolding tab
  tab-at zero f d k h = absurd (omega arith)
  tab-at (suc n) f d k h = step (ℕ_discrete k n) (tab-at n f d k)
    where
      step : Dec (k ≡ n) → (k < n → get_or (tab n f) k d ≡ f k) → get_or (tab n f ++ (f n ∷ [])) k d ≡ f k
      step (yes e) ih = rw e (get_or_at (tab n f) (f n) [] d n (tab-length n f))
      step (no q) ih =
          let l : k < n = omega arith in
          get_or-append (tab n f) (f n ∷ []) d k (rw tab-length l) ∙ ih l

  -- a list by its elements
  pub is-tab : (n : ℕ) (f : ℕ → A) (d : A) (l : List A) → length l ≡ n → ((k : ℕ) → k < n → get_or l k d ≡ f k) → l ≡ tab n f
  is-tab n f d l e h = ext_get_or d l (tab n f) (e ∙ sym (tab-length n f)) (λ k q. h k (omega arith) ∙ sym (tab-at n f d k (omega arith)))

  pub tab-set : (n : ℕ) (f g : ℕ → A) (d : A) (i : ℕ) → i < n → ((k : ℕ) → k < n → ¬ (k ≡ i) → g k ≡ f k) → set (tab n f) i (g i) ≡ tab n g
  tab-set n f g d i h q = is-tab n g d _ (length-set (tab n f) i (g i) ∙ tab-length n f) λ k l. step k l (ℕ_discrete k i)
    where
      step : (k : ℕ) → k < n → Dec (k ≡ i) → get_or (set (tab n f) i (g i)) k d ≡ g k
      step k l (yes e) = rw e (get_or-set_same (tab n f) i (g i) d (rw tab-length h))
      step k l (no r) = get_or-set_other (tab n f) i k (g i) d r ∙ tab-at n f d k l ∙ sym (q k l r)

  -- one more, where the code has `k + 1`
  pub tab-more : (k : ℕ) {f g : ℕ → A} {x : A} → ((i : ℕ) → i < k → g i ≡ f i) → g k ≡ x → tab (k + 1) g ≡ tab k f ++ (x ∷ [])
  unfolding tab
  tab-more k {f} {g} {x} h e =
      let l : tab k g ≡ tab k f = tab-ext k h in
      rw (add-one k) (cc)

  -- and m more
  pub tab-append : (n m : ℕ) (f : ℕ → A) → tab (n + m) f ≡ tab n f ++ tab m (λ i. f (n + i))
  unfolding tab
  tab-append n zero f = ap (λ (k : ℕ). tab k f) (let same : n + 0 ≡ n = omega arith in same) ∙ sym (append-nil (tab n f))
  tab-append n (suc m) f =
      let l : n + suc m ≡ suc (n + m) = omega arith in
      ap (λ (k : ℕ). tab k f) l ∙ ap (λ (xs : List A). xs ++ (f (n + m) ∷ [])) (tab-append n m f) ∙ append_assoc (tab n f) _ _

-- A write of one double.
pub kept_set : (s : List Float) (i : ℕ) (v : Float) → Kept (λ k. Out i 1 k) s (set s i v)
kept_set s i v = record { size = length-set s i v; same = λ k h. get_or-set_other s i k v nan (λ e. omega arith) }

pub kept_refl : (P : ℕ → Type 0) (s : List Float) → Kept P s s
kept_refl P s = record { size = refl; same = λ i h. refl }

pub kept_then : {P Q : ℕ → Type 0} {s t u : List Float} → Kept P s t → Kept Q t u → ((i : ℕ) → P i → Q i) → Kept P s u
kept_then a b w = record { size = b.size ∙ a.size; same = λ i h. b.same i (w i h) ∙ a.same i h }

pub kept_more : {P Q : ℕ → Type 0} {s t : List Float} → Kept Q s t → ((i : ℕ) → P i → Q i) → Kept P s t
kept_more b w = record { size = b.size; same = λ i h. b.same i (w i h) }

-- every place of the n doubles at off
abbrev pub Over : (ℕ → Type 0) → ℕ → ℕ → Type 0
Over P off n = (i : ℕ) → off ≤ i → i < off + n → P i

module _ {P : ℕ → Type 0} {s t : List Float} (kept : Kept P s t) where
  pub kept-vec3 : (i : ℕ) → Over P i 3 → vec3_at t i ≡ vec3_at s i
  kept-vec3 i w = λ j. record {
    x = kept.same i (w i (omega arith) (omega arith)) j;
    y = kept.same (i + 1) (w (i + 1) (omega arith) (omega arith)) j;
    z = kept.same (i + 2) (w (i + 2) (omega arith) (omega arith)) j;
  }

  pub kept_row : (i a b : ℕ) → Over P i 14 → row_at t i a b ≡ row_at s i a b
  kept_row i a b w = λ j. record {
    a = a;
    b = b;
    linear_a = kept-vec3 i (λ k h l. w k h (omega arith)) j;
    angular_a = kept-vec3 (i + 3) (λ k h l. w k (omega arith) (omega arith)) j;
    linear_b = kept-vec3 (i + 6) (λ k h l. w k (omega arith) (omega arith)) j;
    angular_b = kept-vec3 (i + 9) (λ k h l. w k (omega arith) (omega arith)) j;
    value = kept.same (i + 12) (w (i + 12) (omega arith) (omega arith)) j;
    tolerance = kept.same (i + 13) (w (i + 13) (omega arith) (omega arith)) j;
  }

-- Three doubles, one after the other.
pub stored3 : (s : List Float) (i : ℕ) (v : Vec3) → i + 3 ≤ length s
    → (Kept (λ k. Out i 3 k) s (set (set (set s i v.x) (i + 1) v.y) (i + 2) v.z))
    × (vec3_at (set (set (set s i v.x) (i + 1) v.y) (i + 2) v.z) i ≡ v)
stored3 s i v h =
    let s₁ = set s i v.x in
    let s₂ = set s₁ (i + 1) v.y in
    let k₁ = kept_set s i v.x in
    let k₂ = kept_set s₁ (i + 1) v.y in
    let k₃ = kept_set s₂ (i + 2) v.z in
    let l₁ : length s₁ ≡ length s = k₁.size in
    let l₂ : length s₂ ≡ length s₁ = k₂.size in (
      kept_then (kept_then (kept_more k₁ (λ j p. omega arith)) k₂ (λ j p. omega arith)) k₃ (λ j p. omega arith),
      λ j. record {
        x = (k₃.same i (omega arith) ∙ k₂.same i (omega arith) ∙ get_or-set_same s i v.x nan (omega arith)) j;
        y = (k₃.same (i + 1) (omega arith) ∙ get_or-set_same s₁ (i + 1) v.y nan (omega arith)) j;
        z = get_or-set_same s₂ (i + 2) v.z nan (omega arith) j;
      },
    )

-- A loop that fills: none yet, one more, all.
pub filled_none : (off : ℕ) (f : ℕ → Float) (s : List Float) → Filled off 0 f s s
filled_none off f s = record { kept = kept_refl _ s; there = λ k h. absurd (omega arith) }

pub filled_more : {off k : ℕ} {f : ℕ → Float} {s t : List Float} {v : Float} → Filled off k f s t → off + k < length t → v ≡ f k
    → Filled off (k + 1) f s (set t (off + k) v)
filled_more {off} {k} {f} {s} {t} {v} fill h e = record {
  kept = kept_then (kept_more fill.kept (λ i p. omega arith)) (kept_set t (off + k) v) (λ i p. omega arith);
  there = λ j q. step j q (ℕ_discrete j k);
}
  where
    step : (j : ℕ) → j < k + 1 → Dec (j ≡ k) → at (set t (off + k) v) (off + j) ≡ f j
    step j q (yes r) = rw r (get_or-set_same t (off + k) v nan h ∙ e)
    step j q (no r) = (kept_set t (off + k) v).same (off + j) (omega arith) ∙ fill.there j (omega arith)

pub filled-all : {off n k : ℕ} {f : ℕ → Float} {s t : List Float} → k ≤ n → n ≤ k → Filled off k f s t → Filled off n f s t
filled-all {off} {n} {k} {f} {s} {t} a b e = record {
  kept = kept_more e.kept (λ i p. omega arith);
  there = λ j h. e.there j (omega arith);
}

-- ---- no joint has more than six rows
pub one-most : (b : Bool) → one_if b ≤ 1
unfolding one_if
one-most true = omega arith
one-most false = omega arith

pub linear-most : (linear : Linear) → linear_count linear ≤ 3
linear-most Point = omega arith
linear-most Line = omega arith
linear-most Plane = omega arith

pub turning-most : (turning : Turning) → turning_count turning ≤ 3
turning-most Turns.Free = omega arith
turning-most Turns.Align = omega arith
turning-most (Turns.Cone cone) = omega (arith, one-most (swing_locked cone.swing_x), one-most (swing_locked cone.swing_y), one-most (twist_locked cone))

motion-most : (motions : Motions) → motion_count motions ≤ 6
motion-most (Rod length) = omega arith
motion-most (Frame linear turning) = omega (arith, linear-most linear, turning-most turning)

pub count_most : (kind : Kind) → row_count kind ≤ 6
count_most kind = motion-most (motions_of kind)
