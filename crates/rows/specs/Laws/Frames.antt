-- A joint is `Proper` where its frames passed refusal 9 and both bodies stand: N of a product of rotations is the product of their Ns.
use Rattle.std.specs.Prelude.{◌≡◌, ◌&&◌, [], ◌∷◌, ◌^◌, T}
use Rattle.std.proofs.Common.{sym, subst}
use Rattle.std.specs.Float.Ieee.{le}
use Rattle.exact.specs.Rat.{ℚ, qn, leq, ◌*q◌, ◌-q◌, ◌≤q◌, ◌<q◌, ≤q-sub, sub-≤q, cancel-nn}
use Rattle.exact.specs.Ring.{var, con, ◌:-◌, ◌:*◌, same, ring}
use Rattle.exact.specs.Abs.{T_not}
use Rattle.exact.specs.RingQ.{rv, ◌⊕◌, ◌⊖◌, ◌⊗◌, same_q, ring_q}
use Rattle.arith.specs.Real.{◌⊖◌ as ◌⊖ᶠ◌, ratio, abs_of}
use Rattle.vectors.specs.declared.quaternion.Quat.{Quat}
use Rattle.vectors.specs.Vector.{finite_of}
use Rattle.vectors.specs.Quaternion.{quat_finite_of, quat_length_squared_of, is_normalized_of}
use Rattle.vectors.specs.Laws.Fractions.{norm_r}
use Rattle.vectors.specs.Laws.Tests.{both, clash}
use Rattle.vectors.specs.Laws.Turn.{norm-pos}
use Rattle.vectors.specs.Laws.UnitTest.{unit-quat}
use Rattle.vectors.specs.Laws.Product.{own-near}
use Rattle.rows.specs.declared.geometry.JointFrame.{JointFrame}
use Rattle.rows.specs.declared.geometry.Joint.{Joint}
use Rattle.rows.specs.ExactGeometry.{Quaternion, quaternion, N, product, Place, Stands, motions_finite, Proper}
use Rattle.rows.specs.Motions.{motions_of}
use Rattle.rows.specs.Laws.Anchors.{Inside}
use Rattle.rows.specs.Laws.Met.{frame_in}

-- ---- the product of two positive numbers is positive
pub product-positive : (x y : ℚ) → qn 0 <q x → qn 0 <q y → qn 0 <q x *q y
unfolding same
product-positive x y p q = T_not (leq (x *q y) (qn 0)) (λ t. clash (leq y (qn 0)) q (sub-≤q y (qn 0) (less_one t)))
  where
    minus : qn 0 -q x *q y ≡ x *q (qn 0 -q y)
    minus = ring (x ∷ y ∷ []) (con 0 :- var 0 :* var 1) (var 0 :* (con 0 :- var 1)) tt

    less_one : x *q y ≤q qn 0 → qn 0 ≤q qn 0 -q y
    less_one t = cancel-nn x (qn 0 -q y) p (subst (λ (z : ℚ). qn 0 ≤q z) minus (≤q-sub (x *q y) (qn 0) t))

-- ---- N of a product
pub N-product : (a b : Quaternion) → N (product a b) ≡ N a *q N b
unfolding same_q
N-product a b =
    let X = rv 0 in let Y = rv 1 in let Z = rv 2 in let W = rv 3 in let A = rv 4 in let B = rv 5 in let C = rv 6 in let D = rv 7 in
    ring_q (a.x ∷ a.y ∷ a.z ∷ a.w ∷ b.x ∷ b.y ∷ b.z ∷ b.w ∷ [])
    (norm_r (W ⊗ A ⊕ X ⊗ D ⊕ Y ⊗ C ⊖ Z ⊗ B) (W ⊗ B ⊖ X ⊗ C ⊕ Y ⊗ D ⊕ Z ⊗ A) (W ⊗ C ⊕ X ⊗ B ⊖ Y ⊗ A ⊕ Z ⊗ D) (W ⊗ D ⊖ X ⊗ A ⊖ Y ⊗ B ⊖ Z ⊗ C))
    (norm_r X Y Z W ⊗ norm_r A B C D) tt

pub N-product-above : (a b : Quaternion) → qn 0 <q N a → qn 0 <q N b → qn 0 <q N (product a b)
N-product-above a b p q = subst (λ (n : ℚ). qn 0 <q n) (sym (N-product a b)) (product-positive (N a) (N b) p q)

-- ---- a frame that passed its test
normalized-finite : (q : Quat) → T (is_normalized_of q) → T (quat_finite_of q)
unfolding is_normalized_of
normalized-finite q t = (both (quat_finite_of q) (le (abs_of (quat_length_squared_of q ⊖ᶠ ratio 1 1)) (ratio 1 (2 ^ 44))) t).0

normalized-above : (q : Quat) → T (is_normalized_of q) → qn 0 <q N (quaternion q)
normalized-above q t = norm-pos (N (quaternion q)) (own-near q (unit-quat q t)).size

pub frame-stands : (f : JointFrame) → T (frame_in f) → Stands f.local_anchor f.local_rotation
frame-stands f t =
    let a = both (finite_of f.local_anchor && Inside f.local_anchor (ratio 64 1)) (is_normalized_of f.local_rotation) t in
    record {
      origin-finite = (both (finite_of f.local_anchor) (Inside f.local_anchor (ratio 64 1)) a.0).0;
      rotation-finite = normalized-finite f.local_rotation a.1;
      N-above = normalized-above f.local_rotation a.1;
    }

-- ---- the joint
pub proper : (joint : Joint) (a b : Place) → T (frame_in joint.frame_a) → T (frame_in joint.frame_b) → T (motions_finite (motions_of joint.kind))
    → qn 0 <q N a.rotation → qn 0 <q N b.rotation → Proper joint a b
proper joint a b ia ib k p q =
    let A = frame-stands joint.frame_a ia in
    let B = frame-stands joint.frame_b ib in
    record {
      frame-a = A;
      frame-b = B;
      kind-finite = k;
      product-a = N-product-above a.rotation (quaternion joint.frame_a.local_rotation) p A.N-above;
      product-b = N-product-above b.rotation (quaternion joint.frame_b.local_rotation) q B.N-above;
    }
