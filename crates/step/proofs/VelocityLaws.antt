-- The velocity loop: from reads of the scratch and the calls' contracts to the definitions over lists.
use Rattle.std.specs.Prelude.{ℕ, ◌+◌, ◌*◌, ◌^◌, ◌≤◌, ◌<◌, ◌≡◌, refl, Bool, true, false, Option, Some, List, length, set, Float}
use Rattle.std.proofs.Common.{sym, ◌∙◌, ap, subst, arith}
use lib.Ieee as Ieee
use Rattle.arith.specs.Real.{ratio, abs_of, ◌⊕◌}
use Rattle.arith.specs.Flow.{Turn, go, stop, ◌>>=◌, each, every}
use Rattle.arith.specs.FlowLaws.{then-go, then-stop}
use Rattle.arith.specs.Run.{try, again, leave_if, ◌>>=◌ as ◌>>=ʳ◌}
use Rattle.vectors.specs.declared.vector.Vec3.{Vec3}
use Rattle.vectors.specs.Vector.{dot_of, div_of}
use Rattle.rows.specs.declared.body.MomentumBody.{MomentumBody}
use Rattle.rows.specs.declared.geometry.EqualityRow.{EqualityRow}
use Rattle.rows.specs.Fault.{CollisionError, Result}
use Rattle.rows.specs.Body.{omega_of, kick_of}
use Rattle.rows.specs.View.{at, Out, Kept}
use Rattle.rows.specs.Region.{tab-length, kept_refl, kept_set}
use Rattle.solves.specs.declared.joined.Rows.{Rows}
use Rattle.solves.specs.declared.places.Generalized.{Generalized}
use Rattle.solves.specs.Solver.{row_in, generalized_in, try_number, transpose}
use Rattle.solves.specs.Search.{linear_solve}
use Rattle.solves.specs.Region.{vec_at, Does}
use Rattle.solves.specs.RegionLaws.{vec-at}
use Rattle.solves.specs.View.{RHS, GENERALIZED, Shares, Beside, row_on, generalized_at, generalizeds_at, shares_in}
use Rattle.solves.specs.View.{count_of, table_of, system_at, rhs_at, solution_at}
use Rattle.solves.specs.ViewLaws.{row-in, share_in, system-kept}
use Rattle.solves.specs.DoesLaws.{does-stop, does-then, does-is, does-more}
use Rattle.step.specs.declared.passes.Counts.{Counts}
use Rattle.step.specs.declared.velocity.Motion.{Motion}
use Rattle.step.specs.Layout.{CANDIDATE, STATES}
use Rattle.step.specs.Bodies.{Job, body_in, velocity_of, velocity_rhs, compatible_of, kick_bodies, reaction_of}
use Rattle.step.specs.TurnLaws.{correction}
use Rattle.step.specs.Step.{velocity_pass}
use Rattle.step.specs.RunView.{candidates_of, MotionOf, MotionAt, Remembers, Correcting, Goes}
use Rattle.step.specs.View.{start_body_at, candidate_at, candidates_at, moved_to}
use Rattle.step.specs.ViewLaws.{kept-candidate, kept-candidates}
use Rattle.arith.specs.ChainLaws.{every-ext}
use Rattle.step.proofs.FrameLaws.{candidate-in}
use Rattle.step.proofs.EachLaws.{so-none, so-more, so-put, so-stop, so-end}
use Rattle.step.proofs.MotionLaws.{kick-moved}
use Rattle.step.proofs.PassLaws.{fails, goes-then, goes-is, leaves, goes-on}

-- velocity: the rate of a row from the motions of its bodies
module _ (row : EqualityRow) (x y : MomentumBody) {a b : Motion} (ma : MotionOf x a) (mb : MotionOf y b) where
  pub rate-without-a : {f : CollisionError} → stop f ≡ a.angular → stop f ≡ velocity_of row x y
  unfolding velocity_of
  rate-without-a h = then-stop _ (h ∙ ma.angular-is)

  module _ {wa : Vec3} (ha : go wa ≡ a.angular) where
    pub rate-without-b : {f : CollisionError} → stop f ≡ b.angular → stop f ≡ velocity_of row x y
    unfolding velocity_of
    rate-without-b h = then-stop _ (h ∙ mb.angular-is) ∙ then-go _ (ha ∙ ma.angular-is)

    pub rate-tried : {wb : Vec3} → go wb ≡ b.angular → {p q r s : Float} {rate : Result Float}
        → p ≡ dot_of row.linear_a a.linear → q ≡ dot_of row.angular_a wa → r ≡ dot_of row.linear_b b.linear → s ≡ dot_of row.angular_b wb
        → rate ≡ try_number (p ⊕ q ⊕ r ⊕ s) → rate ≡ velocity_of row x y
    unfolding velocity_of
    rate-tried {wb} hb {p} {q} {r} {s} ep eq er es e =
        let va = ma.linear-is in
        let vb = mb.linear-is in
        let total : p ⊕ q ⊕ r ⊕ s ≡ dot_of row.linear_a (div_of x.momentum x.mass) ⊕ dot_of row.angular_a wa
        ⊕ dot_of row.linear_b (div_of y.momentum y.mass) ⊕ dot_of row.angular_b wb = cc in
        e ∙ ap (λ (v : Float). try_number v) total ∙ then-go _ (hb ∙ mb.angular-is) ∙ then-go _ (ha ∙ ma.angular-is)

-- motion_of
pub motion-made : {s : List Float} {k : ℕ} {body : MomentumBody} {linear : Vec3} {angular : Result Vec3} → body ≡ candidate_at s k
    → linear ≡ div_of body.momentum body.mass
    → angular ≡ omega_of body → MotionAt s k (record { body = k; linear = linear; angular = angular })
motion-made {s} {k} e l w =
    record {
      body_is =
          refl;
      moves = record { linear-is = l ∙ ap (λ (b : MomentumBody). div_of b.momentum b.mass) e; angular-is = w ∙ ap omega_of e };
    }

-- motion_again
pub motion-known : {s : List Float} {k : ℕ} {last : Option Motion} {m : Motion} → Remembers s last → last ≡ Some m → m.body ≡ k → MotionAt s k m
motion-known {s} {k} {last} {m} known there e =
    record { body_is = e; moves = subst (λ (j : ℕ). MotionOf (candidate_at s j) m) e (subst (Remembers s) there known).1 }

-- it stays so when a rate is put into its place
pub motion-remembered : {s : List Float} {j : ℕ} {m : Motion} (k : ℕ) (v : Float) → k < 96 → j < 16 → MotionAt s j m
    → Remembers (set s (RHS + k) v) (Some m)
motion-remembered {s} {j} {m} k v l h known =
    (here, subst (λ (body : MomentumBody). MotionOf body m) (sym (same ∙ ap (candidate_at s) known.body_is)) known.moves)
  where
    here : m.body < 16
    here = omega (arith, known.body_is)

    same : candidate_at (set s (RHS + k) v) m.body ≡ candidate_at s m.body
    same = kept-candidate (kept_set s (RHS + k) v) m.body (λ i p q. omega arith) (λ i p q. omega arith)

-- velocity_rhs
module _ (rows : Rows) (s₀ : List Float) where
  abbrev R : List EqualityRow
  R = (system_at s₀ rows).rows

  abbrev C : List MomentumBody
  C = candidates_of rows s₀

  abbrev oppose : ℕ → Result Float
  oppose k = velocity_of (row_in R k) (body_in C (row_in R k).a) (body_in C (row_in R k).b) >>= λ (value : Float). go (Ieee.neg value)

  abbrev pub Opposed : ℕ → List Float → Type 0
  Opposed k s = Does (Beside RHS) s₀ s (go (vec_at s RHS k)) (each k oppose)

  pub rhs-none : Opposed 0 s₀
  rhs-none = so-none (λ s k. at s (RHS + k)) oppose s₀

  -- a loaded row is on bodies of the list
  module _ {k : ℕ} (h : k < count_of rows) (s : List Float) {row : EqualityRow} (er : row ≡ row_on rows.a.now rows.b.now s rows.place k) where
    pub row-a : row.a < rows.bodies
    row-a = subst (λ (q : EqualityRow). q.a < rows.bodies) (sym er) (rows.a_there k h)

    pub row-b : row.b < rows.bodies
    row-b = subst (λ (q : EqualityRow). q.b < rows.bodies) (sym er) (rows.b_there k h)

  module _ {k : ℕ} {s : List Float} {row : EqualityRow} (so : Opposed k s) (h : k < count_of rows)
      (er : row ≡ row_on rows.a.now rows.b.now s rows.place k) where
    rhs-turn : velocity_of row (candidate_at s row.a) (candidate_at s row.b) ≡ velocity_of (row_in R k) (body_in C (row_in R k).a) (body_in C (row_in R k).b)
    rhs-turn =
        let x : row ≡ row_in R k =
        row-in so.kept rows.a.now rows.b.now rows.place (count_of rows) k (λ i p q. omega (arith, rows.few_rows, rows.in_table)) h er in
        let la : row.a < rows.bodies = row-a h s er in
        let lb : row.b < rows.bodies = row-b h s er in
        let most : rows.bodies ≤ 16 = rows.few_bodies in
        let y : candidate_at s row.a ≡ body_in C row.a = candidate-in so.kept rows.bodies row.a
        (λ i p q. omega arith) (λ i p q. omega arith) la refl in
        let z : candidate_at s row.b ≡ body_in C row.b = candidate-in so.kept rows.bodies row.b
        (λ i p q. omega arith) (λ i p q. omega arith) lb refl in
        cc

    pub rhs-again : RHS + k < length s → {v : Float} → go v ≡ velocity_of row (candidate_at s row.a) (candidate_at s row.b)
        → Opposed (k + 1) (set s (RHS + k) (Ieee.neg v))
    rhs-again inside {v} e =
        so-put RHS oppose s₀ k s so (Beside RHS) (λ i x. x) (Ieee.neg v) (λ i x. omega (arith, rows.few_rows)) inside
        (then-go _ (e ∙ rhs-turn))

    pub rhs-stops : {f : CollisionError} → stop f ≡ velocity_of row (candidate_at s row.a) (candidate_at s row.b)
        → Does (Beside RHS) s₀ s (stop f) (velocity_rhs R C)
    unfolding velocity_rhs
    rhs-stops e =
        so-stop (λ s k. at s (RHS + k)) oppose s₀ k s so (Beside RHS) (λ i x. x)
        (sym (tab-length (count_of rows) (row_on rows.a.now rows.b.now s₀ rows.place))) h
        (kept_refl (Beside RHS) s) (λ i x. x) (then-stop _ (e ∙ rhs-turn))

  pub rhs-ends : {k : ℕ} {s : List Float} → Opposed k s → k ≤ count_of rows → count_of rows ≤ k
      → Does (Beside RHS) s₀ s (go (rhs_at s rows)) (velocity_rhs R C)
  unfolding velocity_rhs
  rhs-ends {k} {s} so a b =
      so-end (λ s k. at s (RHS + k)) oppose s₀ k s so (Beside RHS) (λ i x. x) (count_of rows)
      (sym (tab-length (count_of rows) (row_on rows.a.now rows.b.now s₀ rows.place))) a b

-- compatible
module _ (s : List Float) (n : ℕ) where
  abbrev small : ℕ → Bool
  small k = Ieee.le (abs_of (at (vec_at s RHS n) k)) (ratio 1 (10 ^ 12))

  -- the same, of the numbers where they stand
  abbrev pub small_at : ℕ → Bool
  small_at k = Ieee.le (abs_of (at s (RHS + k))) (ratio 1 (10 ^ 12))

  pub compatible-is : every n small_at ≡ compatible_of (vec_at s RHS n)
  unfolding compatible_of
  compatible-is =
      every-ext small_at small n (λ k h. ap (λ (x : Float). Ieee.le (abs_of x) (ratio 1 (10 ^ 12))) (vec-at s RHS n k h))
      ∙ ap (λ (m : ℕ). every m small) (sym (tab-length n (λ j. at s (RHS + j))))

-- kick_candidates
module _ (s₀ : List Float) (body-count : ℕ) where
  abbrev B : List MomentumBody
  B = candidates_at s₀ body-count

  abbrev G : List Generalized
  G = generalizeds_at s₀ GENERALIZED body-count

  abbrev kick : ℕ → Result MomentumBody
  kick k = kick_of (body_in B k) (generalized_in G k).linear (generalized_in G k).angular

  abbrev pub Kicked : ℕ → List Float → Type 0
  Kicked k s = Does (λ i. Out CANDIDATE (13 * k) i) s₀ s (go (candidates_at s k)) (each k kick)

  pub kick-none : Kicked 0 s₀
  kick-none = so-none candidate_at kick s₀

  module _ {k : ℕ} {s : List Float} (so : Kicked k s) (h : k < body-count) (most : body-count ≤ 16) {share : Generalized} {old : MomentumBody}
      {d : Result MomentumBody} (es : share ≡ generalized_at s GENERALIZED k) (eo : old ≡ candidate_at s k)
      (e : d ≡ kick_of old share.linear share.angular) where
    kick-turn : d ≡ kick k
    kick-turn =
        let a : share ≡ generalized_in G k = share_in so.kept GENERALIZED body-count k (λ i x y. omega arith) h es in
        let b : old ≡ body_in B k = candidate-in so.kept body-count k (λ i x y. omega arith) (λ i x y. omega arith) h eo in
        cc

    pub kick-again : {t : List Float} {b : MomentumBody} → go b ≡ d
        → (Kept (λ j. Out (CANDIDATE + 13 * k) 13 j) s t) × (candidate_at t k ≡ moved_to b (start_body_at s k)) → Kicked (k + 1) t
    kick-again {t} {b} q st =
        so-more candidate_at kick s₀ k s so (λ i. Out CANDIDATE (13 * (k + 1)) i) (λ i x. omega arith) st.0 (λ i x. omega arith)
        (λ i g. kept-candidate st.0 i (λ j x y. omega arith) (λ j x y. omega arith))
        (st.1 ∙ kick-moved (start_body_at s k) (candidate_at s k) share.linear share.angular refl refl refl
        (q ∙ e ∙ ap (λ (x : MomentumBody). kick_of x share.linear share.angular) eo)) (q ∙ kick-turn)

    pub kick-stops : {f : CollisionError} → stop f ≡ d → Does (Out CANDIDATE STATES) s₀ s (stop f) (kick_bodies B G)
    unfolding kick_bodies
    kick-stops q =
        so-stop candidate_at kick s₀ k s so (Out CANDIDATE STATES) (λ i x. omega arith) (sym (tab-length body-count (candidate_at s₀))) h
        (kept_refl (Out CANDIDATE STATES) s) (λ i x. x) (q ∙ kick-turn)

  pub kick-ends : {k : ℕ} {s : List Float} → Kicked k s → k ≤ body-count → body-count ≤ k → body-count ≤ 16
      → Does (Out CANDIDATE STATES) s₀ s (go (candidates_at s body-count)) (kick_bodies B G)
  unfolding kick_bodies
  kick-ends {k} {s} so a b most =
      so-end candidate_at kick s₀ k s so (Out CANDIDATE STATES) (λ i x. omega arith) body-count (sym (tab-length body-count (candidate_at s₀))) a b

-- apply
module _ (rows : Rows) (s t : List Float) where
  abbrev reaction : Result (List MomentumBody)
  reaction = reaction_of (system_at s rows).rows (candidates_of rows s) (solution_at s rows)

  abbrev Pushes : Result (List Generalized) → Type 0
  Pushes x = Does Shares s t x (transpose (system_at s rows).rows (solution_at s rows) rows.bodies)

  -- `length candidate` is the number of bodies
  pushed : {x : Result (List Generalized)} → Pushes x
      → Does Shares s t x (transpose (system_at s rows).rows (solution_at s rows) (length (candidates_of rows s)))
  pushed d = does-is d (ap (transpose (system_at s rows).rows (solution_at s rows)) (sym (tab-length rows.bodies (candidate_at s))))

  pub apply-stops : {f : CollisionError} → Pushes (stop f) → Does Correcting s t (stop f) reaction
  unfolding reaction_of
  apply-stops d = does-stop _ (λ i x. omega (arith, x.0)) (pushed d)

  pub apply-then : Pushes (go (shares_in t rows.bodies)) → {u : List Float} {y : Result (List MomentumBody)}
      → Does (Out CANDIDATE STATES) t u y (kick_bodies (candidates_of rows t) (shares_in t rows.bodies)) → Does Correcting s u y reaction
  unfolding reaction_of
  apply-then d {u} {y} e =
      does-then _ (λ i x. omega (arith, x.0)) (λ i x. x.1) (pushed d)
      (does-is e (ap (λ (l : List MomentumBody). kick_bodies l (shares_in t rows.bodies))
      (kept-candidates d.kept rows.bodies (λ i p q. omega (arith, rows.few_bodies)) (λ i p q. omega (arith, rows.few_bodies)))))

-- ---- a pass
module _ (job : Job) (rows : Rows) (s t : List Float) (c : Counts) where
  abbrev Turns : List Float → Counts → Result (Turn (List MomentumBody) (List MomentumBody)) → Type 0
  Turns u now y = Goes Correcting s u c now y (velocity_pass job (system_at s rows) (candidates_of rows s))

  abbrev Rates : Result (List Float) → Type 0
  Rates x = Does (Beside RHS) s t x (velocity_rhs (system_at s rows).rows (candidates_of rows s))

  within : {x : Result (List Float)} → Rates x → Does Correcting s t x (velocity_rhs (system_at s rows).rows (candidates_of rows s))
  within d = does-more (λ i x. omega (arith, x.0)) d

  pub not-rated : {e : CollisionError} → Rates (stop e) → Turns t c (stop e)
  unfolding velocity_pass
  not-rated d = fails _ (within d)

  module _ (d : Rates (go (rhs_at t rows))) {b : Bool} (eb : b ≡ compatible_of (rhs_at t rows)) where
    same-system : system_at t rows ≡ system_at s rows
    same-system = system-kept rows.a.now rows.b.now (table_of rows) (λ i a b. omega arith) rows.in_table rows.few_rows rows.few_bodies d.kept

    same-candidates : candidates_of rows t ≡ candidates_of rows s
    same-candidates = kept-candidates d.kept rows.bodies (λ i a b. omega (arith, rows.few_bodies)) (λ i a b. omega (arith, rows.few_bodies))

    pub at-rest : b ≡ true → Turns t c (go (stop (candidates_of rows t)))
    unfolding velocity_pass
    at-rest h = goes-then _ (within d) (subst (λ (l : List MomentumBody). Goes Correcting t t c c (go (stop l))
        (leave_if (compatible_of (rhs_at t rows)) (candidates_of rows s)
        (linear_solve job.cyclic (system_at s rows) (rhs_at t rows) >>=ʳ λ solution. try (reaction_of (system_at s rows).rows (candidates_of rows s) solution)
        >>=ʳ again))) (sym same-candidates) (leaves _ _ (sym eb ∙ h) (kept_refl Correcting t)))

    pub kicked-on : b ≡ false → {u : List Float} {now : Counts} {y : Result (Turn (List MomentumBody) (List MomentumBody))}
        → Goes Correcting t u c now y (correction (linear_solve job.cyclic (system_at t rows) (rhs_at t rows))
        (reaction_of (system_at t rows).rows (candidates_of rows t))) → Turns u now y
    unfolding velocity_pass
    kicked-on h g = goes-then _ (within d) (goes-on _ _ (sym eb ∙ h) (goes-is g (λ j. correction (linear_solve job.cyclic (same-system j) (rhs_at t rows))
        (reaction_of (same-system j).rows (same-candidates j)))))
