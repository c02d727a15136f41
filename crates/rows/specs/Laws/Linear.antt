-- Rows along an axis of frame a: where such a row's value is at most its tolerance, the exact part of d along the exact axis is at most 2 ^ -28 + 2 ^ -32.
use Rattle.std.specs.Prelude.{Some}
use Rattle.std.specs.Prelude.{◌≡◌, refl, Bool, ◌&&◌, ℕ, ◌+◌, ◌*◌, ◌^◌, T, leb, Float}
use Rattle.std.proofs.Common.{sym, ◌∙◌, subst, leb→le, lit<}
use mathlib.Core.List.{List, [], ◌∷◌}
use mathlib.Core.Quot
use Rattle.std.specs.Float.{binary64}
use Rattle.std.specs.Float.Ieee.{round, sub, le}
use Rattle.std.specs.Float.Ieee.Scale.{finite}
use Rattle.exact.specs.Rat.{ℚ, qn, whole, leq, ◌+q◌, ◌-q◌, ◌*q◌, negq, inv-ok}
use Rattle.exact.specs.Abs.{U, iv, iv_f, Abs, abs-eq, abs-mono, abs-sub}
use Rattle.exact.specs.RingQ.{Rx, rv, rat, ◌⊕◌, ◌⊖◌, ◌⊗◌, same_q, ring_q}
use Rattle.exact.specs.Cert.{nat, Nns, comb, den, by-nn, hyp, sqr, ◌⊞◌}
use Rattle.exact.specs.Val.{val}
use Rattle.exact.specs.Check.{Fx, fv, fc, ◌+f◌, ◌-f◌, ◌*f◌, mag, err, ok, chk, sound, own}
use Rattle.exact.specs.Given.{given}
use Rattle.exact.specs.Hypot.{hyp-fits}
use Rattle.arith.specs.Real.{◌⊕◌ as ◌⊞f◌, ◌⊗◌ as ◌⊠f◌, ratio, abs_of}
use Rattle.vectors.specs.declared.vector.Vec3.{Vec3}
use Rattle.vectors.specs.declared.quaternion.Quat.{Quat}
use Rattle.vectors.specs.Vector.{axis_x, axis_y, axis_z, sub_of, dot_of, length_of}
use Rattle.vectors.specs.Quaternion.{rotate_vector_of}
use Rattle.vectors.specs.Laws.Tests.{both, max-keeps, abs-limit}
use Rattle.vectors.specs.Laws.Length.{root-abs, sides, vec-length}
use Rattle.vectors.specs.Laws.Normal.{Is}
use Rattle.vectors.specs.Laws.Turn.{NearUnit, norm-pos}
use Rattle.vectors.specs.Laws.Rotation.{Below, axis-turns}
use Rattle.rows.specs.Geometry.{epsilon}
use Rattle.rows.specs.ExactGeometry.{Vector, Quaternion, ◌·◌, ◌-v◌, vector, N, turned, X, Y, Z}
use Rattle.rows.specs.Laws.Orthogonal.{turned-square}
use Rattle.rows.specs.Laws.Results.{Tolerated}
use Rattle.rows.specs.Laws.Anchors.{IsV, turned-near, p_top, a_err, AnchorNear}

-- ---- the tolerance: at most 2 ^ -32
abbrev pub tol_top : ℕ
tol_top = 2 ^ 224

abbrev p_top⁺ : ℕ
p_top⁺ = 36 * 2 ^ 264

anchor-sides : T (sides p_top⁺ p_top⁺ p_top⁺ (2 ^ 234) (51 * 2 ^ 264)) × T (sides (51 * 2 ^ 264) p_top⁺ (51 * 2 ^ 264) (2 ^ 235) (63 * 2 ^ 264))
unfolding sides hyp-fits leq ◌+q◌ ◌*q◌ iv U negq
anchor-sides = (tt, tt)

own-top : (f : Float) (x : ℚ) → Is f x p_top a_err → Abs (val f) p_top⁺
own-top f x h = abs-mono (val f) (p_top + a_err) p_top⁺ (leb→le (p_top + a_err) p_top⁺ tt) (own (val f) x p_top a_err h.1 h.2)

anchor-length : (p : Vec3) (P : Vector) → AnchorNear p P → T (finite (length_of p)) × Abs (val (length_of p)) (63 * 2 ^ 264)
anchor-length p P A =
    let n = A.near in
    let L = vec-length p_top⁺ (51 * 2 ^ 264) (63 * 2 ^ 264) (2 ^ 234) (2 ^ 235) anchor-sides.0 anchor-sides.1 p
    (record { x_fits = A.x_fits; y-fits = A.y-fits; z-fits = A.z-fits; x-fine = n.x-is.0; y-fine = n.y-is.0; z-fine = n.z-is.0 })
    (own-top p.x P.x n.x-is) (own-top p.y P.y n.y-is) (own-top p.z P.z n.z-is) in
    (L.side.fine, L.side.top)

tolerance_e : Fx
tolerance_e = fc (ratio 32 1) (whole 32 0) *f fc (ratio 1 (2 ^ 52)) (record { p = 1; n = 0; d = 2 ^ 52; dp = lit< tt }) *f (fv 0 +f fv 1)

toleranceβ : List (ℕ × ℕ)
toleranceβ = (63 * 2 ^ 264, 0) ∷ (63 * 2 ^ 264, 0) ∷ []

least-tolerance : T (finite (ratio 1 (10 ^ 13))) × Abs (val (ratio 1 (10 ^ 13))) tol_top
unfolding round leq ◌+q◌ negq iv U
least-tolerance = (tt, (tt, tt))

pub tolerance-top : (pa pb : Vec3) (A B : Vector) (t : Float) → AnchorNear pa A → AnchorNear pb B → Tolerated pa pb t → T (finite t) × Abs (val t) tol_top
unfolding tolerance_e toleranceβ chk round U
tolerance-top pa pb A B t ha hb T₀ =
    let la = anchor-length pa A ha in
    let lb = anchor-length pb B hb in
    let σ = val (length_of pa) ∷ val (length_of pb) ∷ [] in
    let S =
    sound (length_of pa ∷ length_of pb ∷ []) σ toleranceβ
    (given (length_of pa) (63 * 2 ^ 264) la, (given (length_of pb) (63 * 2 ^ 264) lb, tt)) tolerance_e ((tt, tt), (tt, tt)) tt in
    let m = mag (chk toleranceβ tolerance_e) + err (chk toleranceβ tolerance_e) in
    let r = ratio 32 1 ⊠f epsilon ⊠f (length_of pa ⊞f length_of pb) in
    let P : Float → Type 0 = λ f. T (finite f) × Abs (val f) tol_top in
    subst P T₀
    (max-keeps P r (ratio 1 (10 ^ 13))
    (S.0, abs-mono (val r) m tol_top (leb→le m tol_top tt) (own (val r) _ (mag (chk toleranceβ tolerance_e)) (err (chk toleranceβ tolerance_e)) S.1 S.2))
    least-tolerance)

-- ---- |v| ≤ t
pub value-top : (v t : Float) (n : ℕ) → T (finite t) → Abs (val t) n → T (le (abs_of v) t) → Abs (val v) n
unfolding same_q den comb
value-top v t n f h k =
    let l = abs-limit v t f k in
    let ρ = val v ∷ val t ∷ iv n ∷ [] in
    let H : List Rx = (rv 2 ⊖ rv 1) ∷ (rv 1 ⊖ rv 0) ∷ (rv 1 ⊕ rv 0) ∷ [] in
    let w : Nns ρ H = (h.0, (l.1.0, (l.1.1, tt))) in
    (by-nn ρ [] tt H w [] (hyp 0 ⊞ hyp 1) (rv 2 ⊖ rv 0) tt, by-nn ρ [] tt H w [] (hyp 0 ⊞ hyp 2) (rv 2 ⊕ rv 0) tt)

-- ---- the dot product of two vectors of doubles
dot_e : Fx
dot_e = fv 0 *f fv 3 +f fv 1 *f fv 4 +f fv 2 *f fv 5

dotβ : ℕ → ℕ → ℕ → ℕ → List (ℕ × ℕ)
dotβ m e n d = (m, e) ∷ (m, e) ∷ (m, e) ∷ (n, d) ∷ (n, d) ∷ (n, d) ∷ []

unfoldable pub dots : ℕ → ℕ → ℕ → ℕ → ℕ → Bool
unfolding dot_e dotβ chk
dots m e n d K = ok (chk (dotβ m e n d) dot_e) && leb (err (chk (dotβ m e n d) dot_e)) K

pub dot-near : (m e n d K : ℕ) → T (dots m e n d K) → (u v : Vec3) (E F : Vector) → IsV u E m e → IsV v F n d
    → T (finite (dot_of u v)) × Abs (val (dot_of u v) -q E · F) K
unfolding dots
dot-near m e n d K t u v E F h k =
    let s = both (ok (chk (dotβ m e n d) dot_e)) (leb (err (chk (dotβ m e n d) dot_e)) K) t in
    let R =
    sound (u.x ∷ u.y ∷ u.z ∷ v.x ∷ v.y ∷ v.z ∷ []) (E.x ∷ E.y ∷ E.z ∷ F.x ∷ F.y ∷ F.z ∷ []) (dotβ m e n d)
    (h.x-is, (h.y-is, (h.z-is, (k.x-is, (k.y-is, (k.z-is, tt)))))) dot_e (((tt, tt), (tt, tt)), (tt, tt)) s.0 in
    (R.0, abs-mono (val (dot_of u v) -q E · F) (err (chk (dotβ m e n d) dot_e)) K (leb→le (err (chk (dotβ m e n d) dot_e)) K s.1) R.2)

-- ---- the axes of a frame: unit vectors, within 2 ^ -44
abbrev pub axis_err : ℕ
axis_err = 2 ^ 212

unit-x : (v : Vector) → v · v ≡ qn 1 → Abs v.x (2 ^ 256)
unfolding same_q den comb iv U
unit-x v e =
    root-abs v.x (2 ^ 256) tt
    (by-nn (v.x ∷ v.y ∷ v.z ∷ []) ((rv 0 ⊗ rv 0 ⊕ rv 1 ⊗ rv 1 ⊕ rv 2 ⊗ rv 2, nat 1) ∷ []) (e, tt) [] tt ((nat 0 ⊖ nat 1) ∷ [])
    (sqr (rv 1) ⊞ sqr (rv 2)) (rat (iv_f (2 ^ 256)) ⊗ rat (iv_f (2 ^ 256)) ⊖ rv 0 ⊗ rv 0) tt)

unit-all : (v : Vector) → v · v ≡ qn 1 → Abs v.x (2 ^ 256) × Abs v.y (2 ^ 256) × Abs v.z (2 ^ 256)
unfolding same_q
unit-all v e =
    let ρ = v.x ∷ v.y ∷ v.z ∷ [] in
    let s = rv 0 ⊗ rv 0 ⊕ rv 1 ⊗ rv 1 ⊕ rv 2 ⊗ rv 2 in (
      unit-x v e,
      unit-x (record { x = v.y; y = v.z; z = v.x }) (ring_q ρ (rv 1 ⊗ rv 1 ⊕ rv 2 ⊗ rv 2 ⊕ rv 0 ⊗ rv 0) s tt ∙ e),
      unit-x (record { x = v.z; y = v.x; z = v.y }) (ring_q ρ (rv 2 ⊗ rv 2 ⊕ rv 0 ⊗ rv 0 ⊕ rv 1 ⊗ rv 1) s tt ∙ e),
    )

one-zero : (val (ratio 1 1) ≡ qn 1) × (val (ratio 0 1) ≡ qn 0)
unfolding round
one-zero = (Quot.sound refl, Quot.sound refl)

small-ones : Abs (qn 1) (2 ^ 256) × Abs (qn 0) (2 ^ 256)
unfolding leq ◌+q◌ negq iv U
small-ones = ((tt, tt), (tt, tt))

one-top : Abs (val (ratio 1 1)) (2 ^ 256)
one-top = subst (λ v. Abs v (2 ^ 256)) (sym one-zero.0) small-ones.0

zero-top : Abs (val (ratio 0 1)) (2 ^ 256)
zero-top = subst (λ v. Abs v (2 ^ 256)) (sym one-zero.1) small-ones.1

axis-near : (f : Quat) (g : Quaternion) (local r : Vec3) (e : Vector) → vector local ≡ e → e · e ≡ qn 1 → Below (2 ^ 256) local
    → NearUnit f g.x g.y g.z g.w → rotate_vector_of f local ≡ Some r → IsV r (turned g e) (2 ^ 256) axis_err
axis-near f g local r e is unit B G h =
    let T₀ = subst (λ v. IsV r (turned g v) (2 ^ 257) axis_err) is (turned-near (2 ^ 256) (386 * 2 ^ 203) axis_err axis-turns f g local r h G B) in
    let u = unit-all (turned g e) (turned-square g e (inv-ok (N g) (norm-pos (N g) G.size)) ∙ unit) in
    record { x-is = (T₀.x-is.0, u.0, T₀.x-is.2); y-is = (T₀.y-is.0, u.1, T₀.y-is.2); z-is = (T₀.z-is.0, u.2, T₀.z-is.2) }

module _ (f : Quat) (g : Quaternion) (r : Vec3) (G : NearUnit f g.x g.y g.z g.w) where
  pub x-axis : rotate_vector_of f axis_x ≡ Some r → IsV r (X g) (2 ^ 256) axis_err
  unfolding same_q
  x-axis h =
      axis-near f g axis_x r (record { x = qn 1; y = qn 0; z = qn 0 })
      (λ i. record { x = one-zero.0 i; y = one-zero.1 i; z = one-zero.1 i }) (ring_q [] (nat 1 ⊗ nat 1 ⊕ nat 0 ⊗ nat 0 ⊕ nat 0 ⊗ nat 0) (nat 1) tt)
      (record { x_below = one-top; y-below = zero-top; z-below = zero-top }) G h

  pub y-axis : rotate_vector_of f axis_y ≡ Some r → IsV r (Y g) (2 ^ 256) axis_err
  unfolding same_q
  y-axis h =
      axis-near f g axis_y r (record { x = qn 0; y = qn 1; z = qn 0 })
      (λ i. record { x = one-zero.1 i; y = one-zero.0 i; z = one-zero.1 i }) (ring_q [] (nat 0 ⊗ nat 0 ⊕ nat 1 ⊗ nat 1 ⊕ nat 0 ⊗ nat 0) (nat 1) tt)
      (record { x_below = zero-top; y-below = one-top; z-below = zero-top }) G h

  pub z-axis : rotate_vector_of f axis_z ≡ Some r → IsV r (Z g) (2 ^ 256) axis_err
  unfolding same_q
  z-axis h =
      axis-near f g axis_z r (record { x = qn 0; y = qn 0; z = qn 1 })
      (λ i. record { x = one-zero.1 i; y = one-zero.1 i; z = one-zero.0 i }) (ring_q [] (nat 0 ⊗ nat 0 ⊕ nat 0 ⊗ nat 0 ⊕ nat 1 ⊗ nat 1) (nat 1) tt)
      (record { x_below = zero-top; y-below = zero-top; z-below = one-top }) G h

-- ---- what leads from anchor a to anchor b: within 2 ^ -34.8
abbrev pub d_top : ℕ
d_top = 70 * 2 ^ 264

abbrev pub d_err : ℕ
d_err = 9 * 2 ^ 218

difference_e : Fx
difference_e = fv 0 -f fv 1

differenceβ : List (ℕ × ℕ)
differenceβ = (p_top, a_err) ∷ (p_top, a_err) ∷ []

difference : (p q : Float) (P Q : ℚ) → Is p P p_top a_err → Is q Q p_top a_err → Is (sub binary64 p q) (P -q Q) d_top d_err
unfolding difference_e differenceβ chk U
difference p q P Q h k =
    let S = sound (p ∷ q ∷ []) (P ∷ Q ∷ []) differenceβ (h, (k, tt)) difference_e (tt, tt) tt in
    let b = chk differenceβ difference_e in (
      S.0,
      abs-mono (P -q Q) (mag b) d_top (leb→le (mag b) d_top tt) S.1,
      abs-mono (val (sub binary64 p q) -q (P -q Q)) (err b) d_err (leb→le (err b) d_err tt) S.2,
    )

pub delta-near : (pa pb : Vec3) (A B : Vector) → AnchorNear pa A → AnchorNear pb B → IsV (sub_of pb pa) (B -v A) d_top d_err
delta-near pa pb A B ha hb =
    let a = ha.near in
    let b = hb.near in
    record {
      x-is = difference pb.x pa.x B.x A.x b.x-is a.x-is;
      y-is = difference pb.y pa.y B.y A.y b.y-is a.y-is;
      z-is = difference pb.z pa.z B.z A.z b.z-is a.z-is;
    }

-- ---- a row along an axis
abbrev pub row_err : ℕ
row_err = 2 ^ 224 + 2 ^ 228

linear-dots : T (dots d_top d_err (2 ^ 256) axis_err (2 ^ 228))
unfolding dots U
linear-dots = tt

pub row_near : (delta axis : Vec3) (d E : Vector) (v t : Float) → IsV delta d d_top d_err → IsV axis E (2 ^ 256) axis_err → dot_of delta axis ≡ v
    → T (finite t) → Abs (val t) tol_top → T (le (abs_of v) t) → Abs (d · E) row_err
unfolding same_q
row_near delta axis d E v t hd ha e ft ht k =
    let D = dot-near d_top d_err (2 ^ 256) axis_err (2 ^ 228) linear-dots delta axis d E hd ha in
    let w = val (dot_of delta axis) in
    let V₀ = subst (λ x. Abs (val x) tol_top) (sym e) (value-top v t tol_top ft ht k) in
    abs-eq (w -q (w -q d · E)) (d · E) row_err (ring_q (w ∷ (d · E) ∷ []) (rv 0 ⊖ (rv 0 ⊖ rv 1)) (rv 1) tt) (abs-sub w (w -q d · E) (2 ^ 224) (2 ^ 228) V₀ D.1)
