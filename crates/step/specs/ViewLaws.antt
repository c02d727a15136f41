-- Laws of `View` and `Records`: the bodies that a write keeps, and the records that a step hands back.
use Rattle.std.specs.Prelude.{ℕ, zero, suc, ◌+◌, ◌*◌, ◌≤◌, ◌<◌, ◌≡◌, refl, List, Float}
use Rattle.std.proofs.Common.{sym, ◌∙◌, ap, subst, arith}
use Rattle.vectors.specs.declared.vector.Vec3.{Vec3}
use Rattle.vectors.specs.declared.quaternion.Quat.{Quat}
use Rattle.vectors.specs.declared.matrix.Mat3.{Mat3}
use Rattle.vectors.specs.declared.matrix.CholeskyError.{CholeskyError}
use Rattle.std.specs.Result.{result_unwrap_or}
use Rattle.arith.specs.Flow.{Turn, go, stop}
use Rattle.vectors.specs.Matrix.{from_cols, zero_mat, inverse_by, inverse_spd_of}
use Rattle.rows.specs.Laws.Results.{go_same, step}
use Rattle.rows.specs.declared.body.BodyState.{BodyState}
use Rattle.rows.specs.declared.body.MomentumBody.{MomentumBody}
use Rattle.rows.specs.View.{at, Out, Kept}
use Rattle.rows.specs.Region.{Over, kept-vec3, tab-ext}
use Rattle.step.specs.Layout.{RECORD, MOVING, START, CANDIDATE}
use Rattle.step.specs.Records.{quat_at, mat_at}
use Rattle.step.specs.View.{cols_of, body_from, start_body_at, candidate_at, start_bodies_at, candidates_at, held_of, moved_to, Handed, state_at}

-- a matrix made of three columns is what a store writes of it
pub held-cols : (b : MomentumBody) → cols_of b.inverse_inertia ≡ b.inverse_inertia → held_of b ≡ b
held-cols b e = λ j. record {
  center = b.center;
  rotation = b.rotation;
  momentum = b.momentum;
  spin = b.spin;
  mass = b.mass;
  center_of_mass = b.center_of_mass;
  inverse_inertia = e j;
}

-- every inverse is made of three columns
pub inverse-cols : (m : Mat3) → cols_of (result_unwrap_or (inverse_spd_of m) zero_mat) ≡ result_unwrap_or (inverse_spd_of m) zero_mat
unfolding inverse_spd_of inverse_by
inverse-cols m = tidy (inverse_spd_of m) refl
  where
    tidy : (r : Turn Mat3 CholeskyError) → inverse_spd_of m ≡ r → cols_of (result_unwrap_or r zero_mat) ≡ result_unwrap_or r zero_mat
    tidy (stop e) h = refl
    tidy (go inverse) h =
        let x = step _ _ inverse h in
        let y = step _ _ inverse x.2 in
        let z = step _ _ inverse y.2 in
        let finite = step _ _ inverse z.2 in
        subst (λ (m : Mat3). cols_of m ≡ m) (go_same _ _ finite.2) refl

-- a body with the start's mass, local centre and inverse inertia is the candidate that a store makes of it
pub moved-is : (b start : MomentumBody) → b.mass ≡ start.mass → b.center_of_mass ≡ start.center_of_mass
    → b.inverse_inertia ≡ start.inverse_inertia → moved_to b start ≡ b
moved-is b start m c i = λ j. record {
  center = b.center;
  rotation = b.rotation;
  momentum = b.momentum;
  spin = b.spin;
  mass = sym m j;
  center_of_mass = sym c j;
  inverse_inertia = sym i j;
}

module _ {P : ℕ → Type 0} {s t : List Float} (kept : Kept P s t) where
  pub kept-quat : (i : ℕ) → Over P i 4 → quat_at t i ≡ quat_at s i
  kept-quat i w = λ j. record {
    x = kept.same i (w i (omega arith) (omega arith)) j;
    y = kept.same (i + 1) (w (i + 1) (omega arith) (omega arith)) j;
    z = kept.same (i + 2) (w (i + 2) (omega arith) (omega arith)) j;
    w = kept.same (i + 3) (w (i + 3) (omega arith) (omega arith)) j;
  }

  pub kept-mat : (i : ℕ) → Over P i 9 → mat_at t i ≡ mat_at s i
  kept-mat i w = λ j. from_cols
      (kept-vec3 kept i (λ k a b. w k (omega arith) (omega arith)) j)
      (kept-vec3 kept (i + 3) (λ k a b. w k (omega arith) (omega arith)) j)
      (kept-vec3 kept (i + 6) (λ k a b. w k (omega arith) (omega arith)) j)

  pub kept-state : (i : ℕ) → Over P i MOVING → state_at t i ≡ state_at s i
  kept-state i w = λ j. record {
    origin = kept-vec3 kept i (λ k a b. w k (omega arith) (omega arith)) j;
    rotation = kept-quat (i + 3) (λ k a b. w k (omega arith) (omega arith)) j;
    linear_velocity = kept-vec3 kept (i + 7) (λ k a b. w k (omega arith) (omega arith)) j;
    angular_velocity = kept-vec3 kept (i + 10) (λ k a b. w k (omega arith) (omega arith)) j;
  }

  pub kept-body : (i k : ℕ) → Over P i 13 → Over P (k + 13) 13 → body_from t i k ≡ body_from s i k
  kept-body i k v w = λ j. record {
    center = kept-vec3 kept i (λ n a b. v n (omega arith) (omega arith)) j;
    rotation = kept-quat (i + 3) (λ n a b. v n (omega arith) (omega arith)) j;
    momentum = kept-vec3 kept (i + 7) (λ n a b. v n (omega arith) (omega arith)) j;
    spin = kept-vec3 kept (i + 10) (λ n a b. v n (omega arith) (omega arith)) j;
    mass = kept.same (k + 13) (w (k + 13) (omega arith) (omega arith)) j;
    center_of_mass = kept-vec3 kept (k + 14) (λ n a b. w n (omega arith) (omega arith)) j;
    inverse_inertia = kept-mat (k + 17) (λ n a b. w n (omega arith) (omega arith)) j;
  }

  pub kept-start : (k : ℕ) → Over P (START + RECORD * k) RECORD → start_body_at t k ≡ start_body_at s k
  kept-start k w = kept-body (START + RECORD * k) (START + RECORD * k) (λ n a b. w n (omega arith) (omega arith)) (λ n a b. w n (omega arith) (omega arith))

  pub kept-candidate : (k : ℕ) → Over P (CANDIDATE + MOVING * k) MOVING → Over P (START + RECORD * k + 13) 13 → candidate_at t k ≡ candidate_at s k
  kept-candidate k v w = kept-body (CANDIDATE + MOVING * k) (START + RECORD * k) v w

  pub kept-starts : (body-count : ℕ) → Over P START (RECORD * body-count) → start_bodies_at t body-count ≡ start_bodies_at s body-count
  kept-starts body-count w = tab-ext body-count λ k h. kept-start k (λ i a b. w i (omega arith) (omega arith))

  pub kept-candidates : (body-count : ℕ) → Over P START (RECORD * body-count) → Over P CANDIDATE (MOVING * body-count)
      → candidates_at t body-count ≡ candidates_at s body-count
  kept-candidates body-count v w =
      tab-ext body-count λ k h. kept-candidate k (λ i a b. w i (omega arith) (omega arith)) (λ i a b. v i (omega arith) (omega arith))

-- the 13 doubles of a state, one by one
pub state-at : (s t : List Float) (i k : ℕ) → state_at t i ≡ state_at s k → (j : ℕ) → j < MOVING → at t (i + j) ≡ at s (k + j)
state-at s t i k e = by
  where
    o : (f : Vec3 → Float) → f (state_at t i).origin ≡ f (state_at s k).origin
    o f = ap (λ (b : BodyState). f b.origin) e

    q : (f : Quat → Float) → f (state_at t i).rotation ≡ f (state_at s k).rotation
    q f = ap (λ (b : BodyState). f b.rotation) e

    l : (f : Vec3 → Float) → f (state_at t i).linear_velocity ≡ f (state_at s k).linear_velocity
    l f = ap (λ (b : BodyState). f b.linear_velocity) e

    g : (f : Vec3 → Float) → f (state_at t i).angular_velocity ≡ f (state_at s k).angular_velocity
    g f = ap (λ (b : BodyState). f b.angular_velocity) e

    shift : (a b : ℕ) {m : ℕ} → a + b ≡ m → at t (i + m) ≡ at t (i + a + b)
    shift a b {m} p = ap (at t) (let h : i + m ≡ i + a + b = omega arith in h)

    shifts : (a b : ℕ) {m : ℕ} → a + b ≡ m → at s (k + a + b) ≡ at s (k + m)
    shifts a b {m} p = ap (at s) (let h : k + a + b ≡ k + m = omega arith in h)

    zero-t : at t (i + 0) ≡ at t i
    zero-t = ap (at t) (let h : i + 0 ≡ i = omega arith in h)

    zero-s : at s k ≡ at s (k + 0)
    zero-s = ap (at s) (let h : k ≡ k + 0 = omega arith in h)

    by : (j : ℕ) → j < MOVING → at t (i + j) ≡ at s (k + j)
    by zero h = zero-t ∙ o (λ v. v.x) ∙ zero-s
    by (suc zero) h = o (λ v. v.y)
    by (suc (suc zero)) h = o (λ v. v.z)
    by (suc (suc (suc zero))) h = q (λ v. v.x)
    by (suc (suc (suc (suc zero)))) h = shift 3 1 refl ∙ q (λ v. v.y) ∙ shifts 3 1 refl
    by (suc (suc (suc (suc (suc zero))))) h = shift 3 2 refl ∙ q (λ v. v.z) ∙ shifts 3 2 refl
    by (suc (suc (suc (suc (suc (suc zero)))))) h = shift 3 3 refl ∙ q (λ v. v.w) ∙ shifts 3 3 refl
    by (suc (suc (suc (suc (suc (suc (suc zero))))))) h = l (λ v. v.x)
    by (suc (suc (suc (suc (suc (suc (suc (suc zero)))))))) h = shift 7 1 refl ∙ l (λ v. v.y) ∙ shifts 7 1 refl
    by (suc (suc (suc (suc (suc (suc (suc (suc (suc zero))))))))) h = shift 7 2 refl ∙ l (λ v. v.z) ∙ shifts 7 2 refl
    by (suc (suc (suc (suc (suc (suc (suc (suc (suc (suc zero)))))))))) h = g (λ v. v.x)
    by (suc (suc (suc (suc (suc (suc (suc (suc (suc (suc (suc zero))))))))))) h = shift 10 1 refl ∙ g (λ v. v.y) ∙ shifts 10 1 refl
    by (suc (suc (suc (suc (suc (suc (suc (suc (suc (suc (suc (suc zero)))))))))))) h = shift 10 2 refl ∙ g (λ v. v.z) ∙ shifts 10 2 refl
    by (suc (suc (suc (suc (suc (suc (suc (suc (suc (suc (suc (suc (suc n))))))))))))) h = absurd (omega arith)

module _ {body-count : ℕ} {s bodies after : List Float} (h : Handed body-count s bodies after) (k : ℕ) (l : k < body-count) where
  -- what stands in the record: 13 doubles of the scratch, and 13 as they were
  pub handed-new : (j : ℕ) → j < MOVING → at after (RECORD * k + j) ≡ at s (CANDIDATE + MOVING * k + j)
  handed-new = state-at s after (RECORD * k) (CANDIDATE + MOVING * k) (h.there k l)

  pub handed-old : (j : ℕ) → MOVING ≤ j → j < RECORD → at after (RECORD * k + j) ≡ at bodies (RECORD * k + j)
  handed-old j a b = h.kept.same (RECORD * k + j) (λ m q. apart m)
    where
      apart : (m : ℕ) → Out (RECORD * m) MOVING (RECORD * k + j)
      apart m = omega arith
