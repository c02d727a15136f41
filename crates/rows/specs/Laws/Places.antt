-- The place that a body hands back: its record stands for the origin centre - turned local centre and the body's rotation, also where the old bits are
-- kept (-0 is 0).
use Rattle.std.specs.Prelude.{◌≡◌, refl, Bool, true, false, cond, ◌&&◌, T, Float}
use Rattle.std.proofs.Common.{sym, subst}
use Rattle.std.specs.Float.Ieee.{eq}
use Rattle.std.specs.Float.Ieee.Fits.{and_i}
use Rattle.std.specs.Float.Ieee.Scale.{finite}
use Rattle.exact.specs.Rat.{qn, ◌<q◌}
use Rattle.arith.specs.Real.{is_finite}
use Rattle.arith.specs.Laws.Magnitude.{finite-same}
use Rattle.vectors.specs.declared.vector.Vec3.{Vec3}
use Rattle.vectors.specs.declared.quaternion.Quat.{Quat}
use Rattle.vectors.specs.Vector.{vec, sub_of, finite_of}
use Rattle.vectors.specs.Quaternion.{quat_finite_of}
use Rattle.vectors.specs.Laws.Tests.{both, eq_val}
use Rattle.vectors.specs.Laws.Rotation.{finite-parts}
use Rattle.vectors.specs.Laws.Turn.{norm-pos}
use Rattle.vectors.specs.Laws.UnitTest.{UnitQuat, unit-quat}
use Rattle.vectors.specs.Laws.Product.{own-near}
use Rattle.rows.specs.declared.body.BodyState.{BodyState}
use Rattle.rows.specs.declared.body.MomentumBody.{MomentumBody}
use Rattle.rows.specs.Body.{same_vec3, same_quat, state_with}
use Rattle.rows.specs.ExactGeometry.{vector, quaternion, N, Stands}
use Rattle.rows.specs.Laws.Results.{Stated}

-- ---- numbers that compare equal
pub record SameVec (v w : Vec3) : Type 0 where
  pub finite : T (finite_of w)
  pub is : vector v ≡ vector w

abbrev Fin3 : Vec3 → Type 0
Fin3 v = T (finite v.x) × T (finite v.y) × T (finite v.z)

test : (x : Float) → T (finite x) → T (is_finite x)
test x t = subst T (sym (finite-same x)) t

pub finite-vec : (v : Vec3) → Fin3 v → T (finite_of v)
finite-vec v f =
    let x = is_finite v.x in let y = is_finite v.y in let z = is_finite v.z in
    and_i (x && y) z (and_i x y (test v.x f.0) (test v.y f.1)) (test v.z f.2)

same-vec : (v w : Vec3) → Fin3 v → T (same_vec3 v w) → SameVec v w
same-vec v w f t =
    let a = both (eq v.x w.x && eq v.y w.y) (eq v.z w.z) t in
    let b = both (eq v.x w.x) (eq v.y w.y) a.0 in
    let x = eq_val v.x w.x f.0 b.0 in
    let y = eq_val v.y w.y f.1 b.1 in
    let z = eq_val v.z w.z f.2 a.1 in
    record { finite = finite-vec w (x.0, y.0, z.0); is = λ i. record { x = x.1 i; y = y.1 i; z = z.1 i } }

pub record SameQuat (p q : Quat) : Type 0 where
  pub finite : T (quat_finite_of q)
  pub is : quaternion p ≡ quaternion q

finite-quat : (q : Quat) → T (finite q.x) → T (finite q.y) → T (finite q.z) → T (finite q.w) → T (quat_finite_of q)
finite-quat q x y z w = let v = vec q.x q.y q.z in and_i (finite_of v) (is_finite q.w) (finite-vec v (x, y, z)) (test q.w w)

same-quat : (p q : Quat) → UnitQuat p → T (same_quat p q) → SameQuat p q
same-quat p q P t =
    let a = both (eq p.x q.x && eq p.y q.y && eq p.z q.z) (eq p.w q.w) t in
    let b = both (eq p.x q.x && eq p.y q.y) (eq p.z q.z) a.0 in
    let c = both (eq p.x q.x) (eq p.y q.y) b.0 in
    let x = eq_val p.x q.x P.fine-x c.0 in
    let y = eq_val p.y q.y P.fine-y c.1 in
    let z = eq_val p.z q.z P.fine-z b.1 in
    let w = eq_val p.w q.w P.fine-w a.1 in
    record { finite = finite-quat q x.0 y.0 z.0 w.0; is = λ i. record { x = x.1 i; y = y.1 i; z = z.1 i; w = w.1 i } }

-- ---- the state's place
pub record Placed (a : MomentumBody) (s : BodyState) (o : Vec3) : Type 0 where
  pub unit : UnitQuat a.rotation
  pub origin-finite : Fin3 o
  pub origin-is : vector o ≡ vector s.origin
  pub rotation-is : quaternion a.rotation ≡ quaternion s.rotation
  pub stands : Stands s.origin s.rotation

N-above : (q : Quat) → UnitQuat q → qn 0 <q N (quaternion q)
N-above q Q = norm-pos (N (quaternion q)) (own-near q Q).size

pub placed : (a : MomentumBody) (old s : BodyState) (h : Stated a old s) → Placed a s (sub_of a.center h.centre)
placed a old s h = subst (λ s. Placed a s o) h.is (choose (same_vec3 o old.origin && same_quat q old.rotation) refl)
  where
    o : Vec3
    o = sub_of a.center h.centre

    q : Quat
    q = a.rotation

    Q : UnitQuat q
    Q = unit-quat q h.unit

    choose : (b : Bool) → (same_vec3 o old.origin && same_quat q old.rotation) ≡ b
        → Placed a (cond b (state_with old.origin old.rotation h.linear h.angular) (state_with o q h.linear h.angular)) o
    choose true e =
        let t = both (same_vec3 o old.origin) (same_quat q old.rotation) (subst T (sym e) tt) in
        let f = finite-parts o h.finite in
        let v = same-vec o old.origin f t.0 in
        let r = same-quat q old.rotation Q t.1 in
        record {
          unit = Q;
          origin-finite = f;
          origin-is = v.is;
          rotation-is = r.is;
          stands = record { origin-finite = v.finite; rotation-finite = r.finite; N-above = subst (λ p. qn 0 <q N p) r.is (N-above q Q) };
        }
    choose false e = record {
      unit = Q;
      origin-finite = finite-parts o h.finite;
      origin-is = refl;
      rotation-is = refl;
      stands = record { origin-finite = h.finite; rotation-finite = finite-quat q Q.fine-x Q.fine-y Q.fine-z Q.fine-w; N-above = N-above q Q };
    }
