-- The calls of `start` and of `candidate` one after the other, each under its frame: by the contracts, what stays between them, and `?`.
use Prim.Native.Nat.{ℕ, ◌+◌, ◌≤◌}
use mathlib.Core.Path.{◌≡◌, refl, sym, ◌∙◌, ap}
use mathlib.Core.List.{List}
use native.Mathlib.Omega.{arith}
use lib.ListN.{length}
use lib.Ieee.{Float}
use Rattle.arith.specs.Flow.{go, stop, leaving, and_then, ◌>>=◌, tab}
use Rattle.rows.specs.declared.body.MomentumBody.{MomentumBody}
use Rattle.rows.specs.declared.geometry.EqualityRow.{EqualityRow}
use Rattle.rows.specs.Fault.{CollisionError, Result}
use Rattle.rows.specs.View.{Out, Kept}
use Rattle.rows.specs.Region.{tab-length, kept_then, kept_more}
use Rattle.solves.specs.declared.joined.Rows.{Rows}
use Rattle.solves.specs.declared.places.Generalized.{Generalized}
use Rattle.solves.specs.declared.places.MassResponse.{MassResponse}
use Rattle.solves.specs.Layout.{ROW_TABLE, MASS_TABLE}
use Rattle.solves.specs.Region.{Does}
use Rattle.solves.specs.RegionLaws.{kept-vec}
use Rattle.solves.specs.Solver.{transpose}
use Rattle.solves.specs.DoesLaws.{does-stop, does-then, does-is}
use Rattle.solves.specs.View.{ROWS, MASSES, Shares, rows_on, shares_in, masses_at, count_of, system_at}
use Rattle.solves.specs.ViewLaws.{kept-rows, kept-masses}
use Rattle.step.specs.Layout.{IMPULSES, START, CANDIDATE, BODIES, STATES, USED}
use Rattle.step.specs.Records.{record_at, records_of, count_of_bodies}
use Rattle.step.specs.Bodies.{Job, start_bodies, write_rows, prepare_masses, Started, start_of, Found, move_bodies, candidate_of}
use Rattle.step.specs.View.{start_body_at, start_bodies_at, candidates_at}
use Rattle.step.specs.ViewLaws.{kept-starts, kept-candidates}
use Rattle.step.specs.RunView.{impulses_at, started_at, found_at, Trying}

-- what a call left goes into a record, or its fault goes on
left_then : {A B : Type 0} (r : Result (Unit {0})) (x : A) (f : A → B) → leaving r (f x) ≡ (leaving r x >>= λ y. go (f y))
unfolding and_then
left_then (go _) x f = refl
left_then (stop _) x f = refl

-- what stands before the first pass stays
pub kept-started : {P : ℕ → Type 0} {s t : List Float} (kept : Kept P s t) (rows : Rows) → rows.place + ROW_TABLE ≤ ROWS
    → ((i : ℕ) → Trying i → P i) → started_at t rows ≡ started_at s rows
kept-started kept rows p w = λ j. record {
  bodies = kept-starts kept rows.bodies (λ i a b. w i (omega (arith, rows.few_bodies))) j;
  system = record {
    rows = kept-rows kept rows.a.now rows.b.now rows.place (count_of rows) (λ i a b. w i (omega (arith, rows.few_rows))) j;
    masses = kept-masses kept MASSES rows.bodies (λ i a b. w i (omega (arith, rows.few_bodies))) j;
  };
}

-- ---- start
-- the rows' bodies are all that there are
pub of-all : (job : Job) {n : ℕ} (bodies : List Float) → n ≡ count_of_bodies bodies → {s t : List Float} {x : Result Started}
    → Does (Out 0 USED) s t x (start_of job (tab n (record_at bodies))) → Does (Out 0 USED) s t x (start_of job (records_of bodies))
of-all job bodies e d = does-is d (ap (λ (n : ℕ). start_of job (tab n (record_at bodies))) e)

module _ (job : Job) (bodies : List Float) (rows : Rows) (apart : rows.place + ROW_TABLE ≤ ROWS) (s s₁ : List Float) where
  abbrev Begins : List Float → Result Started → Type 0
  Begins t x = Does (Out 0 USED) s t x (start_of job (tab rows.bodies (record_at bodies)))

  abbrev on_rows : List MomentumBody → List EqualityRow → Result Started
  on_rows start rows = prepare_masses start >>= λ masses. go (record { bodies = start; system = record { rows = rows; masses = masses } })

  abbrev on_start : List MomentumBody → Result Started
  on_start start = write_rows job.joints job.count start >>= on_rows start

  abbrev Makes : Result (List MomentumBody) → Type 0
  Makes x = Does (Out START BODIES) s s₁ x (start_bodies (tab rows.bodies (record_at bodies)))

  pub no_body : {e : CollisionError} → Makes (stop e) → Begins s₁ (stop e)
  unfolding start_of
  no_body d = does-stop on_start (λ i x. omega arith) d

  module _ (d₁ : Makes (go (start_bodies_at s₁ rows.bodies))) (s₂ : List Float) where
    abbrev Writes : Result (List EqualityRow) → Type 0
    Writes x = Does (Out rows.place ROW_TABLE) s₁ s₂ x (write_rows job.joints job.count (start_bodies_at s₁ rows.bodies))

    pub no_rows : {e : CollisionError} → Writes (stop e) → Begins s₂ (stop e)
    unfolding start_of
    no_rows d =
        does-then on_start (λ i x. omega arith) (λ i x. x) d₁
        (does-stop {Q = Out 0 USED} (on_rows (start_bodies_at s₁ rows.bodies)) (λ i x. omega arith) d)

    pub all-begun : {n : ℕ} → count_of rows ≡ n → Writes (go (rows_on rows.a.now rows.b.now s₂ rows.place n)) → (r : Result (Unit {0}))
        → {s₃ : List Float} → Does (Out MASSES MASS_TABLE) s₂ s₃ (leaving r (masses_at s₃ MASSES rows.bodies))
        (prepare_masses (start_bodies_at s₂ rows.bodies))
        → Begins s₃ (leaving r (started_at s₃ rows))
    unfolding start_of
    all-begun {n} en d₂ r {s₃} d₃ =
        does-then on_start (λ i x. omega arith) (λ i x. x) d₁
        (does-then {Q = Out 0 USED} (on_rows (start_bodies_at s₁ rows.bodies)) (λ i x. omega arith) (λ i x. x) d₂ last)
      where
        made : List MassResponse → Started
        made masses =
            record {
              bodies = start_bodies_at s₁ rows.bodies;
              system = record { rows = rows_on rows.a.now rows.b.now s₂ rows.place n; masses = masses };
            }

        starts : start_bodies_at s₂ rows.bodies ≡ start_bodies_at s₁ rows.bodies
        starts = kept-starts d₂.kept rows.bodies (λ i a b. omega (arith, rows.few_bodies))

        there : started_at s₃ rows ≡ made (masses_at s₃ MASSES rows.bodies)
        there = λ j. record {
          bodies = (kept-starts d₃.kept rows.bodies (λ i a b. omega (arith, rows.few_bodies)) ∙ starts) j;
          system = record {
            rows = (kept-rows d₃.kept rows.a.now rows.b.now rows.place (count_of rows) (λ i a b. omega (arith, rows.few_rows))
                ∙ ap (rows_on rows.a.now rows.b.now s₂ rows.place) en) j;
            masses = masses_at s₃ MASSES rows.bodies;
          };
        }

        last : Does (Out 0 USED) s₂ s₃ (leaving r (started_at s₃ rows))
            (on_rows (start_bodies_at s₁ rows.bodies) (rows_on rows.a.now rows.b.now s₂ rows.place n))
        last = record {
          kept = kept_more d₃.kept (λ i x. omega arith);
          is = ap (leaving r) there ∙ left_then r (masses_at s₃ MASSES rows.bodies) made
              ∙ ap (λ (x : Result (List MassResponse)). x >>= λ masses. go (made masses)) (d₃.is ∙ ap prepare_masses starts);
        }

-- ---- candidate
module _ (job : Job) (rows : Rows) (s s₁ : List Float) where
  abbrev Tried : List Float → Result Found → Type 0
  Tried t x = (Does Trying s t x (candidate_of job (started_at s rows) (impulses_at s rows))) × (impulses_at t rows ≡ impulses_at s rows)

  abbrev on_moved : List MomentumBody → Result Found
  on_moved candidate = write_rows job.joints job.count candidate >>= λ rows. go (record { candidate = candidate; rows = rows })

  abbrev on_shares : List Generalized → Result Found
  on_shares shares = move_bodies job.dt (start_bodies_at s rows.bodies) shares >>= on_moved

  abbrev Pushed : Result (List Generalized) → Type 0
  Pushed x = Does Shares s s₁ x (transpose (system_at s rows).rows (impulses_at s rows) rows.bodies)

  -- `length start` is the number of bodies
  counted : {x : Result (List Generalized)} → Pushed x
      → Does Shares s s₁ x (transpose (system_at s rows).rows (impulses_at s rows) (length (start_bodies_at s rows.bodies)))
  counted d =
      does-is d (ap (transpose (system_at s rows).rows (impulses_at s rows)) (sym (tab-length rows.bodies (start_body_at s))))

  pub not-pushed : {e : CollisionError} → Pushed (stop e) → Tried s₁ (stop e)
  unfolding candidate_of
  not-pushed d = (
    does-stop on_shares (λ i x. omega (arith, x.1)) (counted d),
    kept-vec d.kept IMPULSES (count_of rows) (λ i a b. omega (arith, rows.few_rows)),
  )

  module _ (d₁ : Pushed (go (shares_in s₁ rows.bodies))) (s₂ : List Float) where
    abbrev Moved : Result (List MomentumBody) → Type 0
    Moved x = Does (Out CANDIDATE STATES) s₁ s₂ x (move_bodies job.dt (start_bodies_at s₁ rows.bodies) (shares_in s₁ rows.bodies))

    -- from the bodies at the start, which stayed
    moved : {x : Result (List MomentumBody)} → Moved x
        → Does (Out CANDIDATE STATES) s₁ s₂ x (move_bodies job.dt (start_bodies_at s rows.bodies) (shares_in s₁ rows.bodies))
    moved d =
        does-is d (ap (λ (b : List MomentumBody). move_bodies job.dt b (shares_in s₁ rows.bodies))
        (kept-starts d₁.kept rows.bodies (λ i a b. omega (arith, rows.few_bodies))))

    keeps : {x : Result (List MomentumBody)} → Moved x → Kept (λ i. (Shares i) × (Out CANDIDATE STATES i)) s s₂
    keeps d = kept_then (kept_more d₁.kept (λ i x. x.0)) d.kept (λ i x. x.1)

    pub not-moved : {e : CollisionError} → Moved (stop e) → Tried s₂ (stop e)
    unfolding candidate_of
    not-moved d = (
      does-then on_shares (λ i x. omega (arith, x.1)) (λ i x. x.2) (counted d₁) (does-stop on_moved (λ i x. x) (moved d)),
      kept-vec (keeps d) IMPULSES (count_of rows) (λ i a b. (omega (arith, rows.few_rows), omega (arith, rows.few_rows))),
    )

    pub all-tried : Moved (go (candidates_at s₂ rows.bodies)) → {n : ℕ} → count_of rows ≡ n → {s₃ : List Float} (r : Result (Unit {0}))
        → Does (Out ROWS ROW_TABLE) s₂ s₃ (leaving r (rows_on rows.a.now rows.b.now s₃ ROWS n))
        (write_rows job.joints job.count (candidates_at s₂ rows.bodies))
        → Tried s₃ (leaving r (found_at s₃ rows))
    unfolding candidate_of
    all-tried d₂ {n} en {s₃} r d₃ = (
      does-then on_shares (λ i x. omega (arith, x.1)) {T = λ i. (Out CANDIDATE STATES i) × (Out ROWS ROW_TABLE i)} (λ i x. (x.2, x.0)) (counted d₁)
          (does-then on_moved (λ i x. x.0) (λ i x. x.1) (moved d₂) last),
      kept-vec keeps₃ IMPULSES (count_of rows)
          (λ i a b. (omega (arith, rows.few_rows), omega (arith, rows.few_rows), omega (arith, rows.few_rows))),
    )
      where
        keeps₃ : Kept (λ i. (Shares i) × (Out CANDIDATE STATES i) × (Out ROWS ROW_TABLE i)) s s₃
        keeps₃ = kept_then (kept_more (keeps d₂) (λ i x. (x.0, x.1))) d₃.kept (λ i x. x.2)

        found : List EqualityRow → Found
        found list = record { candidate = candidates_at s₂ rows.bodies; rows = list }

        there : found_at s₃ rows ≡ found (rows_on rows.a.now rows.b.now s₃ ROWS n)
        there = λ j. record {
          candidate = kept-candidates d₃.kept rows.bodies (λ i a b. omega (arith, rows.few_bodies)) (λ i a b. omega (arith, rows.few_bodies)) j;
          rows = rows_on rows.a.now rows.b.now s₃ ROWS (en j);
        }

        last : Does (Out ROWS ROW_TABLE) s₂ s₃ (leaving r (found_at s₃ rows)) (on_moved (candidates_at s₂ rows.bodies))
        last = record {
          kept = d₃.kept;
          is =
              ap (leaving r) there ∙ left_then r (rows_on rows.a.now rows.b.now s₃ ROWS n) found
              ∙ ap (λ (x : Result (List EqualityRow)). x >>= λ rows. go (found rows)) d₃.is;
        }
