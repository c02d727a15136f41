-- The path's factor: scales, entries, rows and the band in the scratch are what Path defines over lists. By the laws of loops and of what a write keeps.
use Prim.Native.Nat.{ℕ, ◌+◌, ◌*◌, ◌-◌, ◌≤◌, ◌<◌}
use mathlib.Core.Path.{◌≡◌, sym, ◌∙◌, ap}
use mathlib.Core.Bool.{Bool, true, false, not, ◌||◌}
use mathlib.Core.List.{List}
use native.Mathlib.Omega.{arith}
use borrow.Author.Tests.{eq-eqb, ne_eqb}
use lib.ListN.{length, get_or, set, replicate, length-replicate, get_or-replicate}
use lib.Ieee as Ieee
use lib.Ieee.{Float, binary64}
use Rattle.arith.specs.Real.{ratio, is_finite, ◌⊗◌, ◌⊘◌}
use Rattle.arith.specs.Root.{sqrt}
use Rattle.arith.specs.Flow.{go, stop, leaving, tab, loop}
use Rattle.arith.specs.FlowLaws.{then-go, then-stop, loop-none, loop-more, loop-stop, each_none, each_more, each-stop, each-end, cond_yes, cond_no}
use Rattle.rows.specs.declared.geometry.EqualityRow.{EqualityRow}
use Rattle.rows.specs.Fault.{CollisionError, NonConvergent, Result}
use Rattle.rows.specs.View.{at, Out, Kept}
use Rattle.rows.specs.Region.{is-tab, kept_refl, kept_then, kept_more, kept_set}
use Rattle.solves.specs.declared.places.MassResponse.{MassResponse}
use Rattle.solves.specs.Region.{vec_at, Filled, Does}
use Rattle.solves.specs.RegionLaws.{vec-at, kept-vec, vec-set, vec-more, filled-vec}
use Rattle.solves.specs.Solver.{row_in, cross_mass}
use Rattle.solves.specs.Path.{index, band_cell, reduced, Factor, row_of, scale_at, path_scale, path_entry, path_row, path_factor, path_factored}
use Rattle.solves.specs.View.{row_on, rows_on, masses_at, list_of_first, band_at, factor_at, Factoring, RowsAlong, MASSES, PATH_BAND, PATH_SCALE, Beside, BAND}
use Rattle.solves.specs.DoesLaws.{goes_on, returns-if}
use Rattle.solves.specs.ViewLaws.{kept-rows, kept-masses, row-in}
use Rattle.solves.proofs.BlockLaws.{list_at}
use Rattle.solves.proofs.OperatorLaws.{on-a, on-b}

-- a place of the band, read
pub cell_at : (s : List Float) (n i d : ℕ) → i < n → d < 12 → at s (PATH_BAND + 12 * i + d) ≡ band_cell (band_at s n) i d
cell_at s n i d h l =
    let e : PATH_BAND + 12 * i + d ≡ PATH_BAND + (12 * i + d) = omega arith in
    ap (at s) e ∙ vec-at s PATH_BAND (12 * n) (12 * i + d) (omega arith)

pub cell-first : (s : List Float) (n i : ℕ) → i < n → at s (PATH_BAND + 12 * i) ≡ band_cell (band_at s n) i 0
cell-first s n i h =
    let e : PATH_BAND + 12 * i ≡ PATH_BAND + (12 * i + 0) = omega arith in
    ap (at s) e ∙ vec-at s PATH_BAND (12 * n) (12 * i + 0) (omega arith)

-- cross_at: rows a and b were loaded from places i and j of the order
pub cross_at : {s : List Float} {ia ib order : List ℕ} {place n body-count : ℕ} → RowsAlong s ia ib order place n body-count
    → (i j : ℕ) → i < n → j < n
    → {a b : EqualityRow} {d : Result Float} → a ≡ row_on ia ib s place (get_or order i 0) → b ≡ row_on ia ib s place (get_or order j 0)
    → ((m : ℕ) → a.a < m → a.b < m → d ≡ cross_mass a b (masses_at s MASSES m))
    → d ≡ cross_mass (row_in (rows_on ia ib s place n) (index (list_of_first order n) i)) (row_in (rows_on ia ib s place n) (index (list_of_first order n) j))
    (masses_at s MASSES body-count)
cross_at {s} {ia} {ib} {order} {place} {n} {body-count} pre i j hi hj ea eb e =
    e body-count (on-a pre.rows (pre.along i hi) s ea) (on-b pre.rows (pre.along i hi) s ea)
    ∙ λ x. cross_mass (row-of i hi ea x) (row-of j hj eb x) (masses_at s MASSES body-count)
  where
    row-of : (k : ℕ) → k < n → {row : EqualityRow} → row ≡ row_on ia ib s place (get_or order k 0)
        → row ≡ row_in (rows_on ia ib s place n) (index (list_of_first order n) k)
    row-of k h e =
        row-in (kept_refl (λ _. Unit {0}) s) ia ib place n (get_or order k 0) (λ _ _ _. tt) (pre.along k h) e
        ∙ ap (row_in (rows_on ia ib s place n)) (list_at order n k h)

-- path_scale
module _ {z : List Float} {ia ib order : List ℕ} {place n body-count : ℕ} (pre : RowsAlong z ia ib order place n body-count) (s₀ : List Float) where
  abbrev R : List EqualityRow
  R = rows_on ia ib s₀ place n

  abbrev M : List MassResponse
  M = masses_at s₀ MASSES body-count

  abbrev O : List ℕ
  O = list_of_first order n

  abbrev pub ScaleSo : ℕ → List Float → Type 0
  ScaleSo k s = Does (λ i. Beside PATH_SCALE i) s₀ s (go (vec_at s PATH_SCALE k)) (path_scale R M O k)

  pub scales-none : ScaleSo 0 s₀
  unfolding tab
  scales-none = record { kept = kept_refl _ s₀; is = each_none (scale_at R M O) }

  module _ {i : ℕ} {s : List Float} (inv : ScaleSo i s) (h : i < n) (l : length s ≡ length z) where
    abbrev Cross : List Float → Result Float
    Cross s = cross_mass (row_of (rows_on ia ib s place n) M O i) (row_of (rows_on ia ib s place n) M O i) (masses_at s MASSES body-count)

    cross-is : {d : Result Float} → d ≡ Cross s → d ≡ Cross s₀
    cross-is e = e ∙ λ j. cross_mass (row_of (kept j) M O i) (row_of (kept j) M O i)
        (kept-masses inv.kept MASSES body-count (λ k x y. omega (arith, pre.rows.bodies)) j)
      where
        kept : rows_on ia ib s place n ≡ R
        kept = kept-rows inv.kept ia ib place n (λ k x y. omega (arith, pre.rows.table, pre.rows.most))

    pub scales-lost : {f : CollisionError} → stop f ≡ Cross s
        → Does (λ i. Beside PATH_SCALE i) s₀ s (stop f) (path_scale R M O n)
    unfolding scale_at
    scales-lost e = record { kept = inv.kept; is = each-stop (scale_at R M O) n h inv.is (then-stop _ (cross-is e)) }

    module _ {value zero : Float} (ez : zero ≡ ratio 0 1) (e : go value ≡ Cross s) where
      pub scales-refused : Ieee.le value zero ≡ true → Does (λ i. Beside PATH_SCALE i) s₀ s (stop NonConvergent) (path_scale R M O n)
      unfolding scale_at
      scales-refused q = record {
        kept = inv.kept;
        is = each-stop (scale_at R M O) n h inv.is (then-stop _ (returns-if _ (ap (Ieee.le value) (sym ez) ∙ q)) ∙ then-go _ (cross-is e));
      }

      pub scales-more : Ieee.le value zero ≡ false → {root : Float} → root ≡ sqrt binary64 value → ScaleSo (i + 1) (set s (PATH_SCALE + i) root)
      unfolding scale_at
      scales-more q {root} f = record {
        kept = kept_then inv.kept (kept_set s (PATH_SCALE + i) root) (λ j x. omega (arith, pre.rows.most));
        is = ap go (vec-more s PATH_SCALE i root (omega (arith, pre.rows.whole, pre.rows.most)))
            ∙ each_more (scale_at R M O) inv.is
            (ap go f ∙ then-go _ (goes_on {E = CollisionError} NonConvergent (ap (Ieee.le value) (sym ez) ∙ q)) ∙ then-go _ (cross-is e));
      }

  pub scales-end : {i : ℕ} {s : List Float} → ScaleSo i s → i ≤ n → n ≤ i → ScaleSo n s
  scales-end {i} {s} inv a b =
      let same : i ≡ n = omega arith in
      record { kept = inv.kept; is = ap (λ (m : ℕ). go (vec_at s PATH_SCALE m)) (sym same) ∙ each-end (scale_at R M O) a b inv.is }

-- path_entry
abbrev pub Banded : ℕ → Type 0
Banded i = Out PATH_BAND BAND i

band-out : (n i d k : ℕ) → n ≤ 96 → i < n → d < 12 → Banded k → Out (PATH_BAND + 12 * i + d) 1 k
band-out n i d k m h l x = omega arith

module _ {s : List Float} {ia ib order : List ℕ} {place n body-count i j : ℕ}
    (pre : (RowsAlong s ia ib order place n body-count) × (i < n) × (j ≤ i) × (i ≤ j + 11)) where
  hi : i < n
  hi = pre.1

  abbrev R₁ : List EqualityRow
  R₁ = rows_on ia ib s place n

  abbrev M₁ : List MassResponse
  M₁ = masses_at s MASSES body-count

  abbrev O₁ : List ℕ
  O₁ = list_of_first order n

  abbrev Entry : Result (List Float)
  Entry = path_entry R₁ M₁ O₁ (vec_at s PATH_SCALE n) i j (band_at s n)

  abbrev Cross₁ : Result Float
  Cross₁ = cross_mass (row_of R₁ M₁ O₁ i) (row_of R₁ M₁ O₁ j) M₁

  pub entry-lost : {f : CollisionError} → stop f ≡ Cross₁ → Does Banded s s (stop f) Entry
  unfolding path_entry
  entry-lost e = record { kept = kept_refl _ s; is = then-stop _ e }

  module _ {entry value : Float} (e : go entry ≡ Cross₁)
      (ev : value ≡ reduced (band_at s n) i j (entry ⊘ (at s (PATH_SCALE + i) ⊗ at s (PATH_SCALE + j)))) where
    abbrev Val : Float
    Val = reduced (band_at s n) i j (entry ⊘ (at (vec_at s PATH_SCALE n) i ⊗ at (vec_at s PATH_SCALE n) j))

    value-is : value ≡ Val
    value-is = ev ∙ λ x. reduced (band_at s n) i j (entry ⊘ (vec-at s PATH_SCALE n i hi x ⊗ vec-at s PATH_SCALE n j (omega arith) x))

    module _ (same : j ≡ i) {f : Bool} {zero : Float} (ef : f ≡ is_finite value) (ez : zero ≡ ratio 0 1) where
      finite-is : is_finite Val ≡ f
      finite-is = sym (ef ∙ ap is_finite value-is)

      low-is : Ieee.le Val (ratio 0 1) ≡ Ieee.le value zero
      low-is = sym (λ x. Ieee.le (value-is x) (ez x))

      refused : not (is_finite Val) || Ieee.le Val (ratio 0 1) ≡ true → Does Banded s s (stop NonConvergent) Entry
      unfolding path_entry
      refused q = record { kept = kept_refl _ s; is = cond_yes _ _ q ∙ cond_yes _ _ (eq-eqb j i same) ∙ then-go _ e }

      pub entry-wild : f ≡ false → Does Banded s s (stop NonConvergent) Entry
      entry-wild q = refused (λ x. ap not (finite-is ∙ q) x || Ieee.le Val (ratio 0 1))

      pub entry-low : f ≡ true → Ieee.le value zero ≡ true → Does Banded s s (stop NonConvergent) Entry
      entry-low q w = refused ((λ x. ap not (finite-is ∙ q) x || Ieee.le Val (ratio 0 1)) ∙ low-is ∙ w)

      pub entry-pivot : f ≡ true → Ieee.le value zero ≡ false → {root : Float} → root ≡ sqrt binary64 value
          → Does Banded s (set s (PATH_BAND + 12 * i) root) (go (band_at (set s (PATH_BAND + 12 * i) root) n)) Entry
      unfolding path_entry
      entry-pivot q w {root} er = record {
        kept = kept_more (kept_set s (PATH_BAND + 12 * i) root) (λ k x. omega (arith, pre.0.rows.most));
        is = ap go (vec-set s PATH_BAND (12 * n) (12 * i) root (omega arith) (omega (arith, pre.0.rows.whole, pre.0.rows.most))
            ∙ ap (set (band_at s n) (12 * i)) (er ∙ ap (sqrt binary64) value-is))
            ∙ cond_no _ _ ((λ x. ap not (finite-is ∙ q) x || Ieee.le Val (ratio 0 1)) ∙ low-is ∙ w) ∙ cond_yes _ _ (eq-eqb j i same) ∙ then-go _ e;
      }

    abbrev side : Float
    side = value ⊘ at s (PATH_BAND + 12 * j)

    abbrev after : List Float
    after = set s (PATH_BAND + 12 * i + (i - j)) side

    pub entry-side : (j ≡ i → ⊥) → Does Banded s after (go (band_at after n)) Entry
    unfolding path_entry
    entry-side q =
        let p : PATH_BAND + 12 * i + (i - j) ≡ PATH_BAND + (12 * i + (i - j)) = omega arith in
        record {
          kept = kept_more (kept_set s (PATH_BAND + 12 * i + (i - j)) side) (λ k x. band-out n i (i - j) k pre.0.rows.most hi (omega arith) x);
          is = ap (λ (m : ℕ). go (band_at (set s m side) n)) p
              ∙ ap go (vec-set s PATH_BAND (12 * n) (12 * i + (i - j)) side (omega arith) (omega (arith, pre.0.rows.whole, pre.0.rows.most))
              ∙ λ x. set (band_at s n) (12 * i + (i - j)) (value-is x ⊘ cell-first s n j (omega arith) x))
              ∙ cond_no _ _ (ne_eqb j i q) ∙ then-go _ e;
        }

-- ---- loops that write the band: k turns of f took s₀ to s
abbrev pub BandSo : ℕ → (ℕ → List Float → Result (List Float)) → List Float → ℕ → List Float → Type 0
BandSo n f s₀ k s = Does Banded s₀ s (go (band_at s n)) (loop k f (band_at s₀ n))

module _ (n : ℕ) (f : ℕ → List Float → Result (List Float)) (s₀ : List Float) where
  pub band-none : BandSo n f s₀ 0 s₀
  band-none = record { kept = kept_refl _ s₀; is = loop-none f (band_at s₀ n) }

  module _ (k : ℕ) {s : List Float} (inv : BandSo n f s₀ k s) {t : List Float} where
    pub band-more : Does Banded s t (go (band_at t n)) (f k (band_at s n)) → BandSo n f s₀ (k + 1) t
    band-more d = record { kept = kept_then inv.kept d.kept (λ i x. x); is = loop-more f (band_at s₀ n) inv.is d.is }

    pub band-stop : (m : ℕ) {e : CollisionError} → k < m → Does Banded s t (stop e) (f k (band_at s n)) → Does Banded s₀ t (stop e) (loop m f (band_at s₀ n))
    band-stop m h d = record { kept = kept_then inv.kept d.kept (λ i x. x); is = loop-stop f (band_at s₀ n) m h inv.is d.is }

  pub band-end : {k m : ℕ} {s : List Float} → BandSo n f s₀ k s → k ≡ m → BandSo n f s₀ m s
  band-end inv e = record { kept = inv.kept; is = inv.is ∙ ap (λ (j : ℕ). loop j f (band_at s₀ n)) e }

-- what such a loop's turn reads besides the band: rows, masses, order and scales, of which a write of the band keeps all
abbrev pub band_on : {A : Type 0} → List ℕ → List ℕ → List ℕ → ℕ → ℕ → ℕ → List Float
    → (List EqualityRow → List MassResponse → List ℕ → List Float → A) → A
band_on ia ib order place n body-count s f = f (rows_on ia ib s place n) (masses_at s MASSES body-count) (list_of_first order n) (vec_at s PATH_SCALE n)

module _ {z : List Float} {ia ib order : List ℕ} {place n body-count : ℕ} (pre : RowsAlong z ia ib order place n body-count) {s₀ s : List Float}
    (k : Kept Banded s₀ s) where
  band-kept : {A : Type 0} (f : List EqualityRow → List MassResponse → List ℕ → List Float → A)
      → band_on ia ib order place n body-count s f ≡ band_on ia ib order place n body-count s₀ f
  band-kept f = λ x. f (kept-rows k ia ib place n (λ i x y. omega (arith, pre.rows.table, pre.rows.most)) x)
      (kept-masses k MASSES body-count (λ i x y. omega (arith, pre.rows.bodies)) x) (list_of_first order n)
      (kept-vec k PATH_SCALE n (λ i x y. omega (arith, pre.rows.most)) x)

-- path_row
module _ {z : List Float} {ia ib order : List ℕ} {place n body-count : ℕ} (pre : RowsAlong z ia ib order place n body-count) (i : ℕ) (s₀ : List Float) where
  abbrev EntryOf : List Float → ℕ → List Float → Result (List Float)
  EntryOf s j band = band_on ia ib order place n body-count s (λ r m o c. path_entry r m o c i j band)

  abbrev Turned : ℕ → List Float → Result (List Float)
  Turned t = EntryOf s₀ (i - 11 + t)

  abbrev RowOf : Result (List Float)
  RowOf = band_on ia ib order place n body-count s₀ (λ r m o c. path_row r m o c i (band_at s₀ n))

  -- the code is at j, which begins with r
  pub entries-start : {r : ℕ} → r ≡ i - 11 → BandSo n Turned s₀ (r - (i - 11)) s₀
  entries-start e =
      let none : 0 ≡ i - 11 - (i - 11) = omega arith in
      band-end n Turned s₀ (band-none n Turned s₀) (none ∙ ap (λ (m : ℕ). m - (i - 11)) (sym e))

  module _ {j : ℕ} {s : List Float} (inv : BandSo n Turned s₀ (j - (i - 11)) s) (hj : i - 11 ≤ j) {t : List Float} where
    turn_is : {x : Result (List Float)} → Does Banded s t x (EntryOf s j (band_at s n)) → Does Banded s t x (Turned (j - (i - 11)) (band_at s n))
    turn_is d =
        let p : j ≡ i - 11 + (j - (i - 11)) = omega arith in
        record {
          kept = d.kept;
          is = d.is ∙ band-kept pre inv.kept (λ r m o c. path_entry r m o c i j (band_at s n)) ∙ ap (λ (m : ℕ). EntryOf s₀ m (band_at s n)) p;
        }

    pub entries-more : Does Banded s t (go (band_at t n)) (EntryOf s j (band_at s n)) → BandSo n Turned s₀ (j + 1 - (i - 11)) t
    entries-more d =
        let p : j - (i - 11) + 1 ≡ j + 1 - (i - 11) = omega arith in
        band-end n Turned s₀ (band-more n Turned s₀ (j - (i - 11)) inv (turn_is d)) p

    pub entries-stop : {f : CollisionError} → j < i + 1 → Does Banded s t (stop f) (EntryOf s j (band_at s n)) → Does Banded s₀ t (stop f) RowOf
    unfolding path_row
    entries-stop h d = band-stop n Turned s₀ (j - (i - 11)) inv (i + 1 - (i - 11)) (omega arith) (turn_is d)

  pub entries-end : {j : ℕ} {s : List Float} → BandSo n Turned s₀ (j - (i - 11)) s → j ≤ i + 1 → i + 1 ≤ j → Does Banded s₀ s (go (band_at s n)) RowOf
  unfolding path_row
  entries-end {j} {s} inv a b =
      let same : j ≡ i + 1 = omega arith in
      band-end n Turned s₀ inv (ap (λ (m : ℕ). m - (i - 11)) same)

-- path_factor
module _ {z : List Float} {ia ib order : List ℕ} {place n body-count : ℕ} (pre : RowsAlong z ia ib order place n body-count) (s₀ : List Float) where
  abbrev RowIn : List Float → ℕ → List Float → Result (List Float)
  RowIn s i band = band_on ia ib order place n body-count s (λ r m o c. path_row r m o c i band)

  pub rows_none : BandSo n (RowIn s₀) s₀ 0 s₀
  rows_none = band-none n (RowIn s₀) s₀

  pub rows_end : {i : ℕ} {s : List Float} → BandSo n (RowIn s₀) s₀ i s → i ≤ n → n ≤ i → BandSo n (RowIn s₀) s₀ n s
  rows_end {i} inv a b =
      let same : i ≡ n = omega arith in
      band-end n (RowIn s₀) s₀ inv same

  module _ (i : ℕ) {s : List Float} (inv : BandSo n (RowIn s₀) s₀ i s) {t : List Float} where
    row_is : {x : Result (List Float)} → Does Banded s t x (RowIn s i (band_at s n)) → Does Banded s t x (RowIn s₀ i (band_at s n))
    row_is d = record { kept = d.kept; is = d.is ∙ band-kept pre inv.kept (λ r m o c. path_row r m o c i (band_at s n)) }

    pub rows_more : Does Banded s t (go (band_at t n)) (RowIn s i (band_at s n)) → BandSo n (RowIn s₀) s₀ (i + 1) t
    rows_more d = band-more n (RowIn s₀) s₀ i inv (row_is d)

    pub rows-stop : {f : CollisionError} → i < n → Does Banded s t (stop f) (RowIn s i (band_at s n))
        → Does Banded s₀ t (stop f) (loop n (RowIn s₀) (band_at s₀ n))
    rows-stop h d = band-stop n (RowIn s₀) s₀ i inv n h (row_is d)

  -- from the cleared band
  pub factor-from : {t : List Float} {y : Result (List Float)} → Filled PATH_BAND (12 * n) (λ _. ratio 0 1) z s₀
      → Does Banded s₀ t y (loop n (RowIn s₀) (band_at s₀ n)) → Does Banded z t y (band_on ia ib order place n body-count z (λ r m o c. path_factor r m o c n))
  unfolding path_factor
  factor-from {t} {y} f d = record {
    kept = kept_then k d.kept (λ i x. x);
    is = d.is ∙ ap (loop n (RowIn s₀)) zeros
        ∙ band-kept pre k (λ r m o c. loop n (path_row r m o c) (replicate (12 * n) (ratio 0 1)));
  }
    where
      k : Kept Banded z s₀
      k = kept_more f.kept (λ i x. omega (arith, pre.rows.most))

      none : List Float
      none = replicate (12 * n) (ratio 0 1)

      zeros : band_at s₀ n ≡ none
      zeros = filled-vec f ∙ sym (is-tab (12 * n) (λ _. ratio 0 1) (ratio 0 1) none (length-replicate (12 * n) (ratio 0 1))
          (λ i h. get_or-replicate (12 * n) i (ratio 0 1) (ratio 0 1) h))

-- path_factored
module _ {s : List Float} {ia ib order : List ℕ} {place n body-count : ℕ} (pre : RowsAlong s ia ib order place n body-count) where
  abbrev Factored : Result Factor
  Factored = path_factored (rows_on ia ib s place n) (masses_at s MASSES body-count) (list_of_first order n) n

  abbrev Scales : Result (List Float)
  Scales = path_scale (rows_on ia ib s place n) (masses_at s MASSES body-count) (list_of_first order n) n

  pub factored-unscaled : {t : List Float} {f : CollisionError} → Does (λ i. Beside PATH_SCALE i) s t (stop f) Scales → Does Factoring s t (stop f) Factored
  unfolding path_factored
  factored-unscaled d = record { kept = kept_more d.kept (λ i x. x.1); is = then-stop _ d.is }

  module _ {t : List Float} (d : Does (λ i. Beside PATH_SCALE i) s t (go (vec_at t PATH_SCALE n)) Scales) where
    abbrev FactorFrom : Result (List Float)
    FactorFrom = path_factor (rows_on ia ib t place n) (masses_at t MASSES body-count) (list_of_first order n) (vec_at t PATH_SCALE n) n

    factor-is : FactorFrom ≡ path_factor (rows_on ia ib s place n) (masses_at s MASSES body-count) (list_of_first order n) (vec_at t PATH_SCALE n) n
    factor-is = λ j. path_factor (kept-rows d.kept ia ib place n (λ i x y. omega (arith, pre.rows.table, pre.rows.most)) j)
        (kept-masses d.kept MASSES body-count (λ i x y. omega (arith, pre.rows.bodies)) j) (list_of_first order n) (vec_at t PATH_SCALE n) n

    pub factored-failed : {u : List Float} {f : CollisionError} → Does Banded t u (stop f) FactorFrom → Does Factoring s u (stop f) Factored
    unfolding path_factored
    factored-failed e = record {
      kept = kept_then (kept_more d.kept (λ i x. x.1)) e.kept (λ i x. x.0);
      is = then-stop _ (e.is ∙ factor-is) ∙ then-go _ d.is;
    }

    pub factored-done : {u : List Float} → Does Banded t u (go (band_at u n)) FactorFrom → Does Factoring s u (go (factor_at u n)) Factored
    unfolding path_factored
    factored-done {u} e = record {
      kept = kept_then (kept_more d.kept (λ i x. x.1)) e.kept (λ i x. x.0);
      is = (λ j. go (record { scale = kept-vec e.kept PATH_SCALE n (λ i x y. omega (arith, pre.rows.most)) j; band = band_at u n }))
          ∙ then-go _ (e.is ∙ factor-is) ∙ then-go _ d.is;
    }

    -- whichever way the factor ended
    pub factored-on : {u : List Float} (r : Result (Unit {0})) → Does Banded t u (leaving r (band_at u n)) FactorFrom
        → Does Factoring s u (leaving r (factor_at u n)) Factored
    factored-on (go _) e = factored-done e
    factored-on (stop fault) e = factored-failed e
