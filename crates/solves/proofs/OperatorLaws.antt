-- `dot`, `transpose`, `operator` and `cross_mass`: from reads of the scratch to the definitions over lists.
use Prim.Native.Nat.{ℕ, ◌+◌, ◌*◌, ◌≤◌, ◌<◌}
use mathlib.Core.Path.{◌≡◌, sym, ◌∙◌, ap, subst}
use mathlib.Core.Bool.{Bool, true}
use mathlib.Core.List.{List}
use native.Mathlib.Omega.{arith}
use lib.Dec.{eqb}
use borrow.Author.Tests.{eq-eqb}
use lib.ListN.{length, set, replicate}
use lib.Ieee.{Float}
use Rattle.arith.specs.Real.{ratio, ◌⊕◌}
use Rattle.arith.specs.Flow.{go, stop, ◌>>=◌, tab, loop, each, every}
use Rattle.arith.specs.FlowLaws.{loop-none, each_none, each_more, each-stop, each-end, then-then}
use Rattle.arith.specs.ChainLaws.{every-ext}
use Rattle.vectors.specs.declared.vector.Vec3.{Vec3}
use Rattle.rows.specs.declared.geometry.EqualityRow.{EqualityRow}
use Rattle.rows.specs.Fault.{CollisionError, Result}
use Rattle.rows.specs.View.{at, Out, Kept}
use Rattle.rows.specs.Region.{tab-length, tab-at, kept_set, kept_refl, kept_then, kept_more}
use Rattle.solves.specs.declared.places.Generalized.{Generalized}
use Rattle.solves.specs.declared.places.MassResponse.{MassResponse}
use Rattle.solves.specs.View.{Table}
use Rattle.solves.specs.Region.{vec_at, Filled, Does}
use Rattle.solves.specs.RegionLaws.{vec_in, kept-vec, vec-more}
use Rattle.solves.specs.Solver.{row_in, generalized_in, mass_in, try_number, sum_products, dot, push_into, push_row, transpose}
use Rattle.solves.specs.Solver.{scaled, scale_all, rate, rates, operator, no_share, through, add_through, cross_end, cross_mass}
use Rattle.solves.specs.Checked.{added, finite_share, all_finite, checked}
use Rattle.solves.specs.View.{row_on, rows_on, generalized_at, shares_in, mass_at, masses_at, system_on, Rows, VectorPlace, Shares, Beside}
use Rattle.solves.specs.View.{Operating}
use Rattle.solves.specs.View.{BODIES_MOST, VECTOR, RHS, GENERALIZED, MASSES, END, no_generalized, no_mass}
use Rattle.solves.specs.DoesLaws.{does-stop, does-then}
use Rattle.solves.specs.ViewLaws.{out_within, kept-rows, kept-masses, row-in, share_in, mass-in, shares-set, shares-more, shares-none}
use Rattle.solves.proofs.CheckedLaws.{loop-next, push-is, zeros-checked}

-- dot
pub dot-is : (s : List Float) (a b n : ℕ) {total : Float} {r : Result Float} → total ≡ sum_products (vec_at s a n) (vec_at s b n) n → r ≡ try_number total
    → r ≡ dot (vec_at s a n) (vec_at s b n)
unfolding dot
dot-is s a b n e h = h ∙ ap try_number (e ∙ ap (sum_products (vec_at s a n) (vec_at s b n)) (sym (tab-length n (λ k. at s (a + k)))))

-- push_into
module _ (s : List Float) (index : ℕ) (linear angular : Vec3) (value : Float) (body-count : ℕ) (h : index < body-count) (most : index < BODIES_MOST)
    {body : Generalized} (eb : body ≡ generalized_at s GENERALIZED index) where
  in_list : body ≡ generalized_in (shares_in s body-count) index
  in_list = eb ∙ sym (tab-at body-count (generalized_at s GENERALIZED) no_generalized index h)

  pub into-done : {g : Generalized} {t : List Float} → g ≡ added body linear angular value
      → (Kept (λ j. Out (GENERALIZED + 6 * index) 6 j) s t) × (generalized_at t GENERALIZED index ≡ g)
      → Does Shares s t (checked (shares_in t body-count)) (checked (shares_in s body-count) >>= push_into index linear angular value)
  into-done eg st = record {
    kept = kept_more st.0 (λ i q. omega arith);
    is = ap checked
        (sym (shares-set GENERALIZED body-count index h st)
        ∙ ap (set (shares_in s body-count) index) (eg ∙ ap (λ (b : Generalized). added b linear angular value) in_list))
        ∙ push-is (shares_in s body-count) index linear angular value
        (subst (λ (m : ℕ). index < m) (sym (tab-length body-count (generalized_at s GENERALIZED))) h);
  }

-- push_row
module _ (body-count : ℕ) (row : EqualityRow) (value : Float) (s : List Float) where
  pub row-then : {t u : List Float}
      → Does Shares s t (checked (shares_in t body-count)) (checked (shares_in s body-count) >>= push_into row.a row.linear_a row.angular_a value)
      → Does Shares t u (checked (shares_in u body-count)) (checked (shares_in t body-count) >>= push_into row.b row.linear_b row.angular_b value)
      → Does Shares s u (checked (shares_in u body-count)) (checked (shares_in s body-count) >>= push_row row value)
  unfolding push_row
  row-then d e = record {
    kept = kept_then d.kept e.kept (λ i q. q);
    is = e.is
        ∙ ap (λ (r : Result (List Generalized)). r >>= push_into row.b row.linear_b row.angular_b value) d.is
        ∙ then-then (checked (shares_in s body-count)) _ _;
  }

-- shares_finite
module _ (s : List Float) where
  abbrev pub share_test : ℕ → Bool
  share_test k = finite_share (generalized_at s GENERALIZED k)

  pub shares-are : (body-count : ℕ) → every body-count share_test ≡ all_finite (shares_in s body-count)
  shares-are n =
      every-ext share_test (λ k. finite_share (generalized_in (shares_in s n) k)) n
      (λ k h. ap finite_share (sym (tab-at n (generalized_at s GENERALIZED) no_generalized k h)))
      ∙ ap (λ (m : ℕ). every m (λ k. finite_share (generalized_in (shares_in s n) k))) (sym (tab-length n (generalized_at s GENERALIZED)))

-- a row that was loaded is on bodies below body-count
module _ {s : List Float} {ia ib : List ℕ} {place n body-count : ℕ} (pre : Rows s ia ib place n body-count) {k : ℕ} (h : k < n) (t : List Float)
    {row : EqualityRow} (e : row ≡ row_on ia ib t place k) where
  pub on-a : row.a < body-count
  on-a = subst (λ (q : EqualityRow). q.a < body-count) (sym e) (pre.a-there k h)

  pub on-b : row.b < body-count
  on-b = subst (λ (q : EqualityRow). q.b < body-count) (sym e) (pre.b_there k h)

-- transpose
abbrev pub row_turn : List EqualityRow → List Float → ℕ → List Generalized → Result (List Generalized)
row_turn rows values k out = push_row (row_in rows k) (at values k) out

module _ {z : List Float} {ia ib : List ℕ} {place n body-count : ℕ} (pre : Rows z ia ib place n body-count) {values : ℕ}
    (vector : VectorPlace z values) (s₀ : List Float) where
  abbrev R : List EqualityRow
  R = rows_on ia ib s₀ place n

  abbrev Vs : List Float
  Vs = vec_at s₀ values n

  abbrev pub TransposeSo : ℕ → List Float → Type 0
  TransposeSo k s = Does Shares s₀ s (checked (shares_in s body-count)) (loop k (row_turn R Vs) (shares_in s₀ body-count))

  pub transpose_none : Filled GENERALIZED (6 * body-count) (λ _. ratio 0 1) z s₀ → TransposeSo 0 s₀
  transpose_none f =
      let zeros = shares-none GENERALIZED body-count f in
      record {
        kept = kept_refl Shares s₀;
        is = ap checked zeros ∙ zeros-checked body-count ∙ ap go (sym zeros) ∙ loop-none (row_turn R Vs) (shares_in s₀ body-count);
      }

  pub transpose-again : {k : ℕ} {s t : List Float} {row : EqualityRow} {v : Float} → TransposeSo k s → k < n → row ≡ row_on ia ib s place k
      → v ≡ at s (values + k)
      → ((m : ℕ) → row.a < m → row.b < m → Does Shares s t (checked (shares_in t m)) (checked (shares_in s m) >>= push_row row v)) → TransposeSo (k + 1) t
  transpose-again {k} {s} {t} {row} {v} inv h er ev pushes =
      let d = pushes body-count (on-a pre h s er) (on-b pre h s er) in
      let a : row ≡ row_in R k = row-in inv.kept ia ib place n k (λ i x y. omega arith) h er in
      let b : v ≡ at Vs k = vec_in inv.kept values n k (λ i x y. omega arith) h ev in
      record {
        kept = kept_then inv.kept d.kept (λ i x. x);
        is = d.is
            ∙ ap (λ (y : EqualityRow). checked (shares_in s body-count) >>= push_row y v) a
            ∙ ap (λ (y : Float). checked (shares_in s body-count) >>= push_row (row_in R k) y) b
            ∙ ap (λ (y : Result (List Generalized)). y >>= row_turn R Vs k) inv.is
            ∙ loop-next (row_turn R Vs) (shares_in s₀ body-count) k;
      }

  -- the end of the loop, and what the test of all shares says
  pub transpose-ends : {k : ℕ} {s : List Float} {y : Result (List Generalized)} → y ≡ checked (shares_in s body-count) → TransposeSo k s → k ≤ n → n ≤ k
      → Does Shares s₀ s y (loop n (row_turn R Vs) (shares_in s₀ body-count))
  transpose-ends {k} {s} e inv a b =
      let same : k ≡ n = omega arith in
      record { kept = inv.kept; is = e ∙ inv.is ∙ ap (λ (m : ℕ). loop m (row_turn R Vs) (shares_in s₀ body-count)) same }

  pub transpose-from : {t : List Float} {y : Result (List Generalized)} → Filled GENERALIZED (6 * body-count) (λ _. ratio 0 1) z s₀
      → Does Shares s₀ t y (loop n (row_turn R Vs) (shares_in s₀ body-count))
      → Does Shares z t y (transpose (rows_on ia ib z place n) (vec_at z values n) body-count)
  unfolding transpose
  transpose-from {t} {y} f d = record {
    kept = kept_then (kept_more f.kept (λ i x. omega arith)) d.kept (λ i x. x);
    is = d.is
        ∙ ap (λ (l : List EqualityRow). loop n (row_turn l Vs) (shares_in s₀ body-count)) (kept-rows f.kept ia ib place n (λ i x y. omega arith))
        ∙ ap (λ (l : List Float). loop n (row_turn (rows_on ia ib z place n) l) (shares_in s₀ body-count)) (kept-vec f.kept values n (λ i x y. omega arith))
        ∙ ap (loop n (row_turn (rows_on ia ib z place n) (vec_at z values n))) (shares-none GENERALIZED body-count f)
        ∙ ap (λ (m : ℕ). loop m (row_turn (rows_on ia ib z place n) (vec_at z values n)) (replicate body-count no_share)) (sym (tab-length n _));
  }

-- scale_all
module _ (s₀ : List Float) (body-count : ℕ) (most : body-count ≤ BODIES_MOST) where
  abbrev pub scaling : ℕ → Result Generalized
  scaling k = scaled (generalized_in (shares_in s₀ body-count) k) (mass_in (masses_at s₀ MASSES body-count) k)

  abbrev pub ScaleSo : ℕ → List Float → Type 0
  ScaleSo k s = Does (λ i. Out GENERALIZED (6 * k) i) s₀ s (go (shares_in s k)) (scale_all (shares_in s₀ body-count) (masses_at s₀ MASSES body-count) k)

  pub scale-none : ScaleSo 0 s₀
  unfolding tab
  scale-none = record { kept = kept_refl _ s₀; is = each_none scaling }

  module _ {k : ℕ} {s : List Float} {value : Generalized} {mass : MassResponse} (inv : ScaleSo k s) (h : k < body-count)
      (ev : value ≡ generalized_at s GENERALIZED k) (em : mass ≡ mass_at s MASSES k) where
    scale-turn : scaled value mass ≡ scaling k
    scale-turn =
        let a : value ≡ generalized_in (shares_in s₀ body-count) k = share_in inv.kept GENERALIZED body-count k (λ i x y. omega arith) h ev in
        let b : mass ≡ mass_in (masses_at s₀ MASSES body-count) k = mass-in inv.kept MASSES body-count k (λ i x y. omega arith) h em in
        cc

    pub scale-again : {t : List Float} {g : Generalized} → go g ≡ scaled value mass
        → (Kept (λ j. Out (GENERALIZED + 6 * k) 6 j) s t) × (generalized_at t GENERALIZED k ≡ g) → ScaleSo (k + 1) t
    scale-again q st = record {
      kept = kept_then (kept_more inv.kept (λ i x. omega arith)) st.0 (λ i x. omega arith);
      is = ap go (shares-more GENERALIZED k st) ∙ each_more scaling inv.is (q ∙ scale-turn);
    }

    pub scale-stops : {f : CollisionError} → stop f ≡ scaled value mass → Does Shares s₀ s (stop f) (each body-count scaling)
    scale-stops q = record { kept = kept_more inv.kept (λ i x. omega arith); is = each-stop scaling body-count h inv.is (q ∙ scale-turn) }

  pub scale-ends : {k : ℕ} {s : List Float} → ScaleSo k s → k ≤ body-count → body-count ≤ k
      → Does Shares s₀ s (go (shares_in s body-count)) (each body-count scaling)
  scale-ends {k} {s} inv a b =
      let same : k ≡ body-count = omega arith in
      record { kept = kept_more inv.kept (λ i x. omega arith); is = ap (λ (m : ℕ). go (shares_in s m)) (sym same) ∙ each-end scaling a b inv.is }

-- rates
module _ {z : List Float} {ia ib : List ℕ} {place n body-count : ℕ} (pre : Rows z ia ib place n body-count)
    {out : ℕ} (vector : VectorPlace z out) (s₀ : List Float) where
  abbrev Q : List EqualityRow
  Q = rows_on ia ib s₀ place n

  abbrev M : List Generalized
  M = shares_in s₀ body-count

  abbrev pub rating : ℕ → Result Float
  rating k = try_number (rate (row_in Q k) (generalized_in M (row_in Q k).a) (generalized_in M (row_in Q k).b))

  abbrev pub RatesSo : ℕ → List Float → Type 0
  RatesSo k s = Does (Beside out) s₀ s (go (vec_at s out k)) (rates Q k M)

  pub rates-none : RatesSo 0 s₀
  unfolding tab
  rates-none = record { kept = kept_refl _ s₀; is = each_none rating }

  module _ {k : ℕ} {s : List Float} {row : EqualityRow} {a b : Generalized} {w : Float} (inv : RatesSo k s) (h : k < n)
      (l : length s ≡ length z) (er : row ≡ row_on ia ib s place k)
      (ea : a ≡ generalized_at s GENERALIZED row.a) (eb : b ≡ generalized_at s GENERALIZED row.b) (ev : w ≡ rate row a b) where
    rate-turn : w ≡ rate (row_in Q k) (generalized_in M (row_in Q k).a) (generalized_in M (row_in Q k).b)
    rate-turn =
        let x : row ≡ row_in Q k = row-in inv.kept ia ib place n k (λ i x y. omega arith) h er in
        let la : row.a < body-count = subst (λ (q : EqualityRow). q.a < body-count) (sym er) (pre.a-there k h) in
        let lb : row.b < body-count = subst (λ (q : EqualityRow). q.b < body-count) (sym er) (pre.b_there k h) in
        let y : a ≡ generalized_in M row.a = share_in inv.kept GENERALIZED body-count row.a (λ i x y. omega arith) la ea in
        let u : b ≡ generalized_in M row.b = share_in inv.kept GENERALIZED body-count row.b (λ i x y. omega arith) lb eb in
        cc

    pub rates-again : {v : Float} → go v ≡ try_number w → RatesSo (k + 1) (set s (out + k) v)
    rates-again {v} q = record {
      kept = kept_then inv.kept (kept_set s (out + k) v) (λ i x. out_within out VECTOR (out + k) 1 i (omega arith) (omega (arith, pre.most)) x);
      is = ap go (vec-more s out k v (omega arith)) ∙ each_more rating inv.is (q ∙ ap try_number rate-turn);
    }

    pub rates-stops : {f : CollisionError} → stop f ≡ try_number w → Does (Beside out) s₀ s (stop f) (each n rating)
    rates-stops q = record { kept = inv.kept; is = each-stop rating n h inv.is (q ∙ ap try_number rate-turn) }

  pub rates-ends : {k : ℕ} {s : List Float} → RatesSo k s → k ≤ n → n ≤ k → Does (Beside out) s₀ s (go (vec_at s out n)) (each n rating)
  rates-ends {k} {s} inv a b =
      let same : k ≡ n = omega arith in
      record { kept = inv.kept; is = ap (λ (m : ℕ). go (vec_at s out m)) (sym same) ∙ each-end rating a b inv.is }

-- operator
-- a vector before the shares is a place for the operator
pub place_of : {s : List Float} (place : ℕ) → RHS ≤ place → place + VECTOR ≤ GENERALIZED → END ≤ length s → VectorPlace s place
place_of place h l w = record { low = h; apart = omega arith; there = omega arith }

module _ {s : List Float} {ia ib : List ℕ} (table : Table) (pre : Rows s ia ib table.place table.rows table.bodies) (input out : ℕ) where
  abbrev body-count : ℕ
  body-count = table.bodies

  abbrev Whole : Result (List Float)
  Whole = operator (system_on ia ib s table) (vec_at s input table.rows)

  abbrev Pushed : Result (List Generalized)
  Pushed = transpose (rows_on ia ib s table.place table.rows) (vec_at s input table.rows) body-count

  -- `length masses` is body-count
  len : body-count ≡ length (masses_at s MASSES body-count)
  len = sym (tab-length body-count (mass_at s MASSES))

  module _ {t : List Float} where
    first : {x : Result (List Generalized)} → Does Shares s t x Pushed
        → Does Shares s t x (transpose (rows_on ia ib s table.place table.rows) (vec_at s input table.rows) (length (masses_at s MASSES body-count)))
    first d = record { kept = d.kept; is = d.is ∙ ap (transpose (rows_on ia ib s table.place table.rows) (vec_at s input table.rows)) len }

    pub operator-pushes-failed : {f : CollisionError} → Does Shares s t (stop f) Pushed → Does (Operating out) s t (stop f) Whole
    unfolding operator
    operator-pushes-failed d = does-stop _ (λ i x. x.0) (first d)

    module _ (d : Does Shares s t (go (shares_in t body-count)) Pushed) {u : List Float} where
      second : {x : Result (List Generalized)} → Does Shares t u x (scale_all (shares_in t body-count) (masses_at t MASSES body-count) body-count)
          → Does Shares t u x (scale_all (shares_in t body-count) (masses_at s MASSES body-count) (length (masses_at s MASSES body-count)))
      second e = record {
        kept = e.kept;
        is = e.is ∙ λ j. scale_all (shares_in t body-count) (kept-masses d.kept MASSES body-count (λ i x y. omega (arith, pre.bodies)) j) (len j);
      }

      pub operator-scales-failed : {f : CollisionError}
          → Does Shares t u (stop f) (scale_all (shares_in t body-count) (masses_at t MASSES body-count) body-count)
          → Does (Operating out) s u (stop f) Whole
      unfolding operator
      operator-scales-failed e = does-then _ (λ i x. x.0) (λ i x. x) (first d) (does-stop _ (λ i x. x.0) (second e))

      pub operator-rates : Does Shares t u (go (shares_in u body-count)) (scale_all (shares_in t body-count) (masses_at t MASSES body-count) body-count)
          → {w : List Float} {y : Result (List Float)}
          → Does (Beside out) u w y (rates (rows_on ia ib u table.place table.rows) table.rows (shares_in u body-count))
          → Does (Operating out) s w y Whole
      unfolding operator
      operator-rates e {w} {y} f = does-then _ (λ i x. x.0) (λ i x. x) (first d) (does-then _ (λ i x. x.0) (λ i x. x.1) (second e) third)
        where
          kept : rows_on ia ib u table.place table.rows ≡ rows_on ia ib s table.place table.rows
          kept = kept-rows e.kept ia ib table.place table.rows (λ i x y. omega (arith, pre.table, pre.most))
              ∙ kept-rows d.kept ia ib table.place table.rows (λ i x y. omega (arith, pre.table, pre.most))

          third : Does (Beside out) u w y
              (rates (rows_on ia ib s table.place table.rows) (length (rows_on ia ib s table.place table.rows)) (shares_in u body-count))
          third =
              record {
                kept = f.kept;
                is = f.is ∙ λ j. rates (kept j) (sym (tab-length table.rows (row_on ia ib s table.place)) j) (shares_in u body-count);
              }

-- cross_mass
module _ (s : List Float) (body-count ai bi : ℕ) (h : ai < body-count) (al aa bl ba : Vec3) (value : Float) where
  pub same_body : ai ≡ bi → {mass : MassResponse} {x : Float} → mass ≡ mass_at s MASSES ai → x ≡ through mass al aa bl ba
      → value ⊕ x ≡ add_through (masses_at s MASSES body-count) ai al aa bi bl ba value
  same_body e {mass} {x} em ex =
      let t : eqb ai bi ≡ true = eq-eqb ai bi e in
      let m : mass ≡ mass_in (masses_at s MASSES body-count) ai = em ∙ sym (tab-at body-count (mass_at s MASSES) no_mass ai h) in
      cc

pub cross-is : (masses : List MassResponse) (a b : EqualityRow) {zero half x : Float} {r : Result Float} → zero ≡ ratio 0 1
    → half ≡ cross_end masses a.a a.linear_a a.angular_a b zero
    → x ≡ cross_end masses a.b a.linear_b a.angular_b b half → r ≡ try_number x → r ≡ cross_mass a b masses
unfolding cross_mass
cross-is masses a b ez e f h =
    h ∙ ap try_number (f ∙ ap (cross_end masses a.b a.linear_b a.angular_b b) (e ∙ ap (cross_end masses a.a a.linear_a a.angular_a b) ez))
