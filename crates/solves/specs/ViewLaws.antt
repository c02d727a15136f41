-- Laws of `View`: the views of rows, shares and masses that a write keeps or changes in one place, and their elements.
use Rattle.std.specs.Prelude.{ℕ, ◌+◌, ◌*◌, ◌-◌, ◌≤◌, ◌<◌, ◌≡◌, List, [], ◌∷◌, ◌++◌, get_or, set, replicate, Float}
use Rattle.std.proofs.Common.{sym, ◌∙◌, ap, arith}
use Rattle.std.proofs.Math.Decide.{dec_lt}
use Rattle.std.proofs.lemmas.List.{length-replicate, get_or-replicate}
use Rattle.arith.specs.Real.{ratio}
use Rattle.vectors.specs.Matrix.{from_cols}
use Rattle.rows.specs.declared.geometry.EqualityRow.{EqualityRow}
use Rattle.rows.specs.View.{at, Out, Kept}
use Rattle.rows.specs.Region.{tab-ext, tab-at, is-tab, tab-set, tab-more, Over, kept-vec3, kept_row}
use Rattle.solves.specs.declared.places.Generalized.{Generalized}
use Rattle.solves.specs.declared.places.MassResponse.{MassResponse}
use Rattle.solves.specs.View.{Table}
use Rattle.solves.specs.Region.{Filled}
use Rattle.solves.specs.Solver.{no_share, row_in, generalized_in, mass_in}
use Rattle.solves.specs.View.{row_on, rows_on, generalized_at, generalizeds_at, mass_at, masses_at, system_on, Beside, Operating, Passing, Testing}
use Rattle.solves.specs.View.{Refining, Work, Tables, ROWS, RHS, ROWS_MOST, BODIES_MOST, MASSES, SOLUTION, no_row, no_generalized, no_mass}
use Rattle.solves.specs.View.{RESIDUAL, DIRECTION, PRODUCT, DIAGONAL, NORMAL, GENERALIZED, PATH_BAND, PATH_SCALE, PATH_RHS, VECTOR, SHARES, BAND, END}

-- views that a write keeps, and elements of them
module _ {P : ℕ → Type 0} {s t : List Float} (kept : Kept P s t) where
  pub kept-rows : (ia ib : List ℕ) (place n : ℕ) → Over P place (14 * n) → rows_on ia ib t place n ≡ rows_on ia ib s place n
  kept-rows ia ib place n w = tab-ext n λ k h. kept_row kept (place + 14 * k) (get_or ia k 0) (get_or ib k 0) (λ i a b. w i (omega arith) (omega arith))

  pub kept-share : (place i : ℕ) → Over P (place + 6 * i) 6 → generalized_at t place i ≡ generalized_at s place i
  kept-share place i w = λ j. record {
    linear = kept-vec3 kept (place + 6 * i) (λ k a b. w k (omega arith) (omega arith)) j;
    angular = kept-vec3 kept (place + 6 * i + 3) (λ k a b. w k (omega arith) (omega arith)) j;
  }

  kept-mass : (place i : ℕ) → Over P (place + 10 * i) 10 → mass_at t place i ≡ mass_at s place i
  kept-mass place i w = λ j. record {
    linear = kept.same (place + 10 * i) (w (place + 10 * i) (omega arith) (omega arith)) j;
    angular = from_cols
        (kept-vec3 kept (place + 10 * i + 1) (λ k a b. w k (omega arith) (omega arith)) j)
        (kept-vec3 kept (place + 10 * i + 4) (λ k a b. w k (omega arith) (omega arith)) j)
        (kept-vec3 kept (place + 10 * i + 7) (λ k a b. w k (omega arith) (omega arith)) j);
  }

  pub kept-masses : (place body-count : ℕ) → Over P place (10 * body-count) → masses_at t place body-count ≡ masses_at s place body-count
  kept-masses place body-count w = tab-ext body-count λ i h. kept-mass place i (λ k a b. w k (omega arith) (omega arith))

  pub row-in : (ia ib : List ℕ) (place n k : ℕ) {row : EqualityRow} → Over P place (14 * n) → k < n → row ≡ row_on ia ib t place k
      → row ≡ row_in (rows_on ia ib s place n) k
  row-in ia ib place n k w h e = e ∙ sym (tab-at n (row_on ia ib t place) no_row k h) ∙ ap (λ (l : List EqualityRow). row_in l k) (kept-rows ia ib place n w)

  pub share_in : (place body-count i : ℕ) {g : Generalized} → Over P (place + 6 * i) 6 → i < body-count → g ≡ generalized_at t place i
      → g ≡ generalized_in (generalizeds_at s place body-count) i
  share_in place body-count i w h e = e ∙ kept-share place i w ∙ sym (tab-at body-count (generalized_at s place) no_generalized i h)

  pub mass-in : (place body-count i : ℕ) {g : MassResponse} → Over P place (10 * body-count) → i < body-count → g ≡ mass_at t place i
      → g ≡ mass_in (masses_at s place body-count) i
  mass-in place body-count i w h e = e ∙ sym (tab-at body-count _ no_mass i h) ∙ ap (λ (l : List MassResponse). mass_in l i) (kept-masses place body-count w)

-- the share of one body, written: the list with it set; or, read so far, one longer
pub shares-set : {s t : List Float} (place body-count i : ℕ) {g : Generalized} → i < body-count
    → (Kept (λ j. Out (place + 6 * i) 6 j) s t) × (generalized_at t place i ≡ g)
    → set (generalizeds_at s place body-count) i g ≡ generalizeds_at t place body-count
shares-set {s} {t} place body-count i {g} h e =
    ap (set (generalizeds_at s place body-count) i) (sym e.1)
    ∙ tab-set body-count (generalized_at s place) (generalized_at t place) g i h λ k l r. kept-share e.0 place k (λ x y z. omega arith)

pub shares-more : {s t : List Float} (place k : ℕ) {g : Generalized} → (Kept (λ j. Out (place + 6 * k) 6 j) s t) × (generalized_at t place k ≡ g)
    → generalizeds_at t place (k + 1) ≡ generalizeds_at s place k ++ (g ∷ [])
shares-more {s} {t} place k {g} e = tab-more k (λ i h. kept-share e.0 place i (λ x y z. omega arith)) e.1

-- the mass response of one body more
pub masses-more : {s t : List Float} (place k : ℕ) {g : MassResponse} → (Kept (λ j. Out (place + 10 * k) 10 j) s t) × (mass_at t place k ≡ g)
    → masses_at t place (k + 1) ≡ masses_at s place k ++ (g ∷ [])
masses-more {s} {t} place k {g} e = tab-more k (λ i h. kept-mass e.0 place i (λ x y z. omega arith)) e.1

-- cleared: no body has a share
pub shares-none : {s t : List Float} (place body-count : ℕ) → Filled place (6 * body-count) (λ _. ratio 0 1) s t
    → generalizeds_at t place body-count ≡ replicate body-count no_share
shares-none {s} {t} place body-count e = sym (is-tab body-count _ no_share (replicate body-count no_share) (length-replicate body-count no_share) λ k h.
    get_or-replicate body-count k no_share no_share h ∙ sym (share k h))
  where
    zeroed : (k i : ℕ) → k < body-count → place ≤ i → i < place + 6 * body-count → at t i ≡ ratio 0 1
    zeroed k i h a b =
        let x : place + (i - place) ≡ i = omega arith in
        ap (at t) (sym x) ∙ e.there (i - place) (omega arith)

    share : (k : ℕ) → k < body-count → generalized_at t place k ≡ no_share
    share k h = λ j. record {
      linear =
          record {
            x = zeroed k (place + 6 * k) h (omega arith) (omega arith) j;
            y = zeroed k (place + 6 * k + 1) h (omega arith) (omega arith) j;
            z = zeroed k (place + 6 * k + 2) h (omega arith) (omega arith) j;
          };
      angular =
          record {
            x = zeroed k (place + 6 * k + 3) h (omega arith) (omega arith) j;
            y = zeroed k (place + 6 * k + 3 + 1) h (omega arith) (omega arith) j;
            z = zeroed k (place + 6 * k + 3 + 2) h (omega arith) (omega arith) j;
          };
    }

-- ---- frames within frames
pub out_within : (a n b m i : ℕ) → a ≤ b → b + m ≤ a + n → Out a n i → Out b m i
out_within a n b m i h l x = omega arith

-- what a pass writes: a vector before the diagonal, the normal, and the shares
pub passing-vector : (place : ℕ) → SOLUTION ≤ place → place + VECTOR ≤ DIAGONAL → (i : ℕ) → Passing i → Beside place i
passing-vector place h l i x = out_within SOLUTION (DIAGONAL - SOLUTION) place VECTOR i h (omega arith) x.0

pub passing-moves : (place : ℕ) → SOLUTION ≤ place → place + VECTOR ≤ DIAGONAL → (i : ℕ) → Passing i → Operating place i
passing-moves place h l i x = (out_within NORMAL (PATH_BAND - NORMAL) GENERALIZED SHARES i (omega arith) (omega arith) x.1, passing-vector place h l i x)

pub passing-normal : (i : ℕ) → Passing i → Operating NORMAL i
passing-normal i x = (
  out_within NORMAL (PATH_BAND - NORMAL) GENERALIZED SHARES i (omega arith) (omega arith) x.1,
  out_within NORMAL (PATH_BAND - NORMAL) NORMAL VECTOR i (omega arith) (omega arith) x.1,
)

pub passing-testing : (i : ℕ) → Passing i → Testing i
passing-testing i x =
    let moves = passing-moves PRODUCT (omega arith) (omega arith) i x in
    (moves.0, moves.1, passing-vector RESIDUAL (omega arith) (omega arith) i x)

pub passing-work : (i : ℕ) → Work i → Passing i
passing-work i x = (
  out_within SOLUTION (END - SOLUTION) SOLUTION (DIAGONAL - SOLUTION) i (omega arith) (omega arith) x,
  out_within SOLUTION (END - SOLUTION) NORMAL (PATH_BAND - NORMAL) i (omega arith) (omega arith) x,
)

pub refining-work : (i : ℕ) → Work i → Refining i
refining-work i x = (passing-work i x, out_within SOLUTION (END - SOLUTION) PATH_RHS VECTOR i (omega arith) (omega arith) x)

-- what a linear solve may write are its ten tables
pub work-tables : (i : ℕ) → Work i → Tables i
work-tables i w = record {
  solution = omega arith;
  residual = omega arith;
  direction = omega arith;
  product = omega arith;
  diagonal = omega arith;
  normal = omega arith;
  shares = omega arith;
  band = omega arith;
  scale = omega arith;
  side = omega arith;
}

out-low : (a n i : ℕ) → i < a → Out a n i
out-low a n i h = omega arith

out-high : (a m n i : ℕ) → a + m + n ≤ i → Out a (m + n) i
out-high a m n i h = omega arith

out-past : (a n i : ℕ) → (i < a → ⊥) → Out a n i → a + n ≤ i
out-past a n i h p = omega arith

not-below : (a m i : ℕ) → a + m ≤ i → i < a + m → ⊥
not-below a m i h l = omega arith

-- outside of two tables, one behind the other
out-join : (a m n i : ℕ) → Out a m i → Out (a + m) n i → Out a (m + n) i
out-join a m n i p q = by (dec_lt i a)
  where
    by : Dec (i < a) → Out a (m + n) i
    by (yes h) = out-low a (m + n) i h
    by (no h) = out-high a m n i (out-past (a + m) n i (not-below a m i (out-past a m i h p)) q)

pub tables-work : (i : ℕ) → Tables i → Work i
tables-work i t =
    out-join SOLUTION VECTOR (END - RESIDUAL) i t.solution
    (out-join RESIDUAL VECTOR (END - DIRECTION) i t.residual
    (out-join DIRECTION VECTOR (END - PRODUCT) i t.direction
    (out-join PRODUCT VECTOR (END - DIAGONAL) i t.product
    (out-join DIAGONAL VECTOR (END - NORMAL) i t.diagonal
    (out-join NORMAL VECTOR (END - GENERALIZED) i t.normal
    (out-join GENERALIZED SHARES (END - PATH_BAND) i t.shares
    (out-join PATH_BAND BAND (END - PATH_SCALE) i t.band
    (out-join PATH_SCALE VECTOR (END - PATH_RHS) i t.scale t.side))))))))

-- what a solve leaves of the system that it began with
pub system-kept : {P : ℕ → Type 0} {s t : List Float} (ia ib : List ℕ) (table : Table) → Over P 0 RHS → table.place ≤ ROWS → table.rows ≤ ROWS_MOST
    → table.bodies ≤ BODIES_MOST → Kept P s t → system_on ia ib t table ≡ system_on ia ib s table
system-kept ia ib table w low most few k = λ j. record {
  rows = kept-rows k ia ib table.place table.rows (λ i x y. w i (omega arith) (omega arith)) j;
  masses = kept-masses k MASSES table.bodies (λ i x y. w i (omega arith) (omega arith)) j;
}
