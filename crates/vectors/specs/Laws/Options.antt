-- From an answer `Some` back to the tests that it passed.
use Rattle.std.specs.Prelude.{Option, Some, None}
use Rattle.std.specs.Prelude.{◌≡◌, refl, Bool, true, false, not, cond, ◌||◌, ℕ, T, Float}
use Rattle.std.proofs.Common.{sym, subst, arith}
use Rattle.std.specs.Float.Ieee.{eq}
use Rattle.arith.specs.Real.{is_finite, ratio}
use Rattle.vectors.specs.declared.vector.Vec3.{Vec3}
use Rattle.vectors.specs.declared.quaternion.Quat.{Quat}
use Rattle.vectors.specs.Vector.{finite_of, length_of, normalize_by, checked_length_of}
use Rattle.vectors.specs.Quaternion.{quat_finite_of, quat_largest_of, quat_div_of, quat_length_of, quat_try_normalize_of, turned_of, rotated_by}
use Rattle.vectors.specs.Quaternion.{rotate_vector_of}

-- `cond b none x` is not the answer none
pub past : {O : Type 0} (b : Bool) (none x y : O) → (none ≡ y → ⊥) → cond b none x ≡ y → T (not b) × (x ≡ y)
past true none x y n e = absurd (n e)
past false none x y n e = (tt, e)

pub not-not : (b : Bool) → T (not (not b)) → T b
not-not true t = tt
not-not false t = t

neither : (a b : Bool) → T (not (a || b)) → T (not a) × T (not b)
neither true b t = absurd t
neither false b t = (tt, t)

no-quat : (u : Quat) → None ≡ Some u → ⊥
no-quat u e = let z : ◌≡◌ {A = ℕ} 0 1 = cc in omega arith

no-vec : (v : Vec3) → None ≡ Some v → ⊥
no-vec v e = let z : ◌≡◌ {A = ℕ} 0 1 = cc in omega arith

no_number : (x : Float) → None ≡ Some x → ⊥
no_number x e = let z : ◌≡◌ {A = ℕ} 0 1 = cc in omega arith

some-quat : (u v : Quat) → Some u ≡ Some v → u ≡ v
some-quat u v e = cc

some-vec : (u v : Vec3) → Some u ≡ Some v → u ≡ v
some-vec u v e = cc

some_number : (x y : Float) → Some x ≡ Some y → x ≡ y
some_number x y e = cc

-- ---- quat_try_normalize_of
pub record Normalized (q u : Quat) : Type 0 where
  pub fine : T (quat_finite_of q)
  pub scale : T (not (eq (quat_largest_of q) (ratio 0 1)))
  pub len-fine : T (is_finite (quat_length_of (quat_div_of q (quat_largest_of q))))
  pub len : T (not (eq (quat_length_of (quat_div_of q (quat_largest_of q))) (ratio 0 1)))
  pub is : quat_div_of (quat_div_of q (quat_largest_of q)) (quat_length_of (quat_div_of q (quat_largest_of q))) ≡ u

pub normalized : (q u : Quat) → quat_try_normalize_of q ≡ Some u → Normalized q u
unfolding normalize_by
normalized q u e =
    let m = quat_largest_of q in
    let s = quat_div_of q m in
    let l = quat_length_of s in
    let a = past (not (quat_finite_of q)) None (cond (eq m (ratio 0 1)) None (cond (not (is_finite l) || eq l (ratio 0 1)) None (Some (quat_div_of s l))))
    (Some u) (no-quat u) e in
    let b = past (eq m (ratio 0 1)) None (cond (not (is_finite l) || eq l (ratio 0 1)) None (Some (quat_div_of s l))) (Some u) (no-quat u) a.1 in
    let c = past (not (is_finite l) || eq l (ratio 0 1)) None (Some (quat_div_of s l)) (Some u) (no-quat u) b.1 in
    let d = neither (not (is_finite l)) (eq l (ratio 0 1)) c.0 in
    record { fine = not-not (quat_finite_of q) a.0; scale = b.0; len-fine = not-not (is_finite l) d.0; len = d.1; is = some-quat (quat_div_of s l) u c.1 }

-- ---- rotate_vector_of
pub record Rotates (q : Quat) (v r : Vec3) : Type 0 where
  pub fine : T (finite_of v)
  pub unit : Quat
  pub normal : quat_try_normalize_of q ≡ Some unit
  pub is : turned_of unit v ≡ r
  pub result : T (finite_of r)

abbrev pub if_finite : Vec3 → Option Vec3
if_finite v = cond (finite_of v) (Some v) None

pub if-finite : (v r : Vec3) → if_finite v ≡ Some r → (v ≡ r) × T (finite_of r)
if-finite v r e = go (finite_of v) refl e
  where
    go : (b : Bool) → finite_of v ≡ b → cond b (Some v) None ≡ Some r → (v ≡ r) × T (finite_of r)
    go true h e = let s = some-vec v r e in (s, subst (λ w. T (finite_of w)) s (subst T (sym h) tt))
    go false h e = absurd (no-vec r e)

pub rotates : (q : Quat) (v r : Vec3) → rotate_vector_of q v ≡ Some r → Rotates q v r
unfolding rotate_vector_of
rotates q v r e =
    let a = past (not (finite_of v)) None (rotated_by v (quat_try_normalize_of q)) (Some r) (no-vec r) e in
    go (not-not (finite_of v) a.0) (quat_try_normalize_of q) refl a.1
  where
    go : T (finite_of v) → (o : Option Quat) → quat_try_normalize_of q ≡ o → rotated_by v o ≡ Some r → Rotates q v r
    go f (Some u) n e = let k = if-finite (turned_of u v) r e in record { fine = f; unit = u; normal = n; is = k.0; result = k.1 }
    go f None n e = absurd (no-vec r e)

-- ---- checked_length_of
pub length-is : (v : Vec3) (x : Float) → checked_length_of v ≡ Some x → (length_of v ≡ x) × T (is_finite x)
unfolding checked_length_of
length-is v x e = go (is_finite (length_of v)) refl e
  where
    go : (b : Bool) → is_finite (length_of v) ≡ b → cond b (Some (length_of v)) None ≡ Some x → (length_of v ≡ x) × T (is_finite x)
    go true h e = let s = some_number (length_of v) x e in (s, subst (λ w. T (is_finite w)) s (subst T (sym h) tt))
    go false h e = absurd (no_number x e)
