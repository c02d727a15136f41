-- The octant: for 0 ≤ b ≤ a in doubles of any size, a above 0, and v = octant (b / a), S(v) is
-- (b / a) C(v) to within 2^-45, and (1, b / a) lies ahead of the angle v.
use Rattle.std.specs.Prelude.{◌≡◌, List, [], ◌∷◌, not, ◌&&◌, ℕ, ◌+◌, ◌-◌, ◌*◌, ◌^◌, T, leb, Float}
use Rattle.std.proofs.Common.{ap, subst, leb→le}
use Rattle.std.specs.Float.{binary64}
use Rattle.std.specs.Float.Ieee.{round, mul, div}
use Rattle.std.specs.Float.Ieee.Scale.{finite}
use Rattle.exact.specs.Rat.{ℚ, qn, whole, leq, ◌+q◌, ◌-q◌, ◌*q◌, negq, ◌≤q◌, inv, inv-ok, cancel-nn, ≤q-sub}
use Rattle.exact.specs.Ring.{var, con, ◌:+◌, ◌:-◌, ◌:*◌, ng, same, ring}
use Rattle.exact.specs.RingQ.{Rx, rv, rat, ◌⊕◌, ◌⊖◌, ◌⊗◌, ev_r, same_q, ring_q, bnd_r}
use Rattle.exact.specs.Cert.{nat, comb, by-nn, Nns, hyp, num, ◌⊞◌, ◌⊠◌, den, bounds, bound}
use Rattle.exact.specs.Abs.{U, iv, iv_f, 0≤, Abs, abs-eq, abs-mono, abs-add, abs_neg}
use Rattle.exact.specs.Val.{val, rnd, huge, div-err}
use Rattle.exact.specs.Check.{Fx, fv, fc, ◌*f◌, own}
use Rattle.arith.specs.Real.{ratio}
use Rattle.arith.specs.Angle.{half_tangent, arc_sum, octant}
use Rattle.arith.specs.ExactSums.{sine_sum41, cosine_sum42}
use Rattle.arith.specs.Laws.AtanTests.{both, Close, closes, computed, bounded}
use Rattle.arith.specs.Laws.AtanSums.{cosine_x, cosine_x-ok, cosine_fits, cosine-top, sine_grows, cosine_grows, sine-grows, cosine-grows}
use Rattle.arith.specs.Laws.AtanDouble.{wide, tangent_ok, tangent}
use Rattle.arith.specs.Laws.AtanHalf.{q_top, half_ok, half}
use Rattle.arith.specs.Laws.AtanArc.{arc_top, a_top, arc-tangent}
use Rattle.arith.specs.Laws.AtanTurn.{v_top}

-- ---- the quotient t = b / a is from 0 to 1
module _ (a b : ℚ) (p : T (not (leq a (qn 0)))) (n : 0≤ b) (l : b ≤q a) where
  share-low : 0≤ (b *q inv a)
  unfolding same_q den comb
  share-low =
      cancel-nn a (b *q inv a) p
      (by-nn (a ∷ b ∷ inv a ∷ []) ((rv 0 ⊗ rv 2, nat 1) ∷ []) (inv-ok a p, tt) (rv 1 ∷ []) (n, tt) (rv 1 ∷ []) (hyp 0) (rv 0 ⊗ (rv 1 ⊗ rv 2)) tt)

  share-top : 0≤ (qn 1 -q b *q inv a)
  unfolding same_q den comb
  share-top =
      cancel-nn a (qn 1 -q b *q inv a) p (by-nn (a ∷ b ∷ inv a ∷ []) ((rv 0 ⊗ rv 2, nat 1) ∷ []) (inv-ok a p, tt)
      ((rv 0 ⊖ rv 1) ∷ []) (≤q-sub b a l, tt) ((nat 0 ⊖ rv 1) ∷ []) (hyp 0) (rv 0 ⊗ (nat 1 ⊖ rv 1 ⊗ rv 2)) tt)

-- from 0 to 1, as a bound
pub unit : (t : ℚ) → 0≤ t → 0≤ (qn 1 -q t) → Abs t (2 ^ 256)
unfolding same_q den comb iv U
unit t p q =
    let H : List Rx = rv 0 ∷ (nat 1 ⊖ rv 0) ∷ [] in
    let P : Nns (t ∷ []) H = (p, (q, tt)) in
    (by-nn (t ∷ []) [] tt H P [] (hyp 1) (rat (iv_f (2 ^ 256)) ⊖ rv 0) tt, by-nn (t ∷ []) [] tt H P [] (hyp 0 ⊞ num 1 0) (rat (iv_f (2 ^ 256)) ⊕ rv 0) tt)

pub share : (a b : ℚ) → T (not (leq a (qn 0))) → 0≤ b → b ≤q a → Abs (b *q inv a) (2 ^ 256)
share a b p n l = unit (b *q inv a) (share-low a b p n l) (share-top a b p n l)

quotient : (a b : Float) → T (finite a) → T (finite b) → T (not (leq (val a) (qn 0))) → Abs (val b *q inv (val a)) (2 ^ 256)
    → T (finite (div binary64 b a)) × Abs (val (div binary64 b a)) q_top × Abs (val (div binary64 b a) -q val b *q inv (val a)) (2 ^ 204)
unfolding U
quotient a b fa fb p h =
    let q = div binary64 b a in let t = val b *q inv (val a) in let e = rnd (2 ^ 256) in
    let d = div-err b a (2 ^ 256) fb fa p h (leb→le (2 ^ 256) (U * huge) tt) in (
      d.0,
      abs-mono (val q) (2 ^ 256 + e) q_top (leb→le (2 ^ 256 + e) q_top tt) (own (val q) t (2 ^ 256) e h d.1),
      abs-mono (val q -q t) e (2 ^ 204) (leb→le e (2 ^ 204) tt) d.1,
    )

-- ---- two halvings of the angle, the odd sum, and two doublings
abbrev q₁Top : ℕ
q₁Top = 2 ^ 255 + 2 ^ 208

tests : T (half_ok q_top q₁Top && half_ok q₁Top arc_top)
unfolding half_ok
tests = tt

doublings : T (tangent_ok q₁Top arc_top (2 ^ 205) (2 ^ 207) (20 * 2 ^ 204) && tangent_ok q_top q₁Top (20 * 2 ^ 204) (2 ^ 207) (96 * 2 ^ 204))
unfolding tangent_ok
doublings = tt

-- 4 a, exactly
abbrev fourfold : ℚ → ℚ
fourfold a = (a +q a) +q (a +q a)

-- the sums at 4 a, for the a of q
fourth : (q : Float) → T (finite q) → Abs (val q) q_top
    → let a = arc_sum (half_tangent (half_tangent q)) in T (finite a) × Abs (val a) a_top
    × Abs (sine_sum41 (fourfold (val a)) -q val q *q cosine_sum42 (fourfold (val a))) (96 * 2 ^ 204)
fourth q f h =
    let q₁ = half_tangent q in let q₂ = half_tangent q₁ in
    let t = both (half_ok q_top q₁Top) (half_ok q₁Top arc_top) tests in
    let d = both (tangent_ok q₁Top arc_top (2 ^ 205) (2 ^ 207) (20 * 2 ^ 204)) (tangent_ok q_top q₁Top (20 * 2 ^ 204) (2 ^ 207) (96 * 2 ^ 204)) doublings in
    let H = half q_top q₁Top t.0 q f h in
    let K = half q₁Top arc_top t.1 q₁ H.fine H.size in
    let A = arc-tangent q₂ K.fine K.size in let x = val (arc_sum q₂) in
    let D = tangent q₁Top arc_top (2 ^ 205) (2 ^ 207) (20 * 2 ^ 204) d.0 x (val q₁) (val q₂)
    (abs-mono x a_top wide (leb→le a_top wide tt) A.size) H.size K.size A.near K.near in
    let E = tangent q_top q₁Top (20 * 2 ^ 204) (2 ^ 207) (96 * 2 ^ 204) d.1 (x +q x) (val q) (val q₁)
    (abs-mono (x +q x) (a_top + a_top) wide (leb→le (a_top + a_top) wide tt) (abs-add x x a_top a_top A.size A.size)) h H.size D H.near in
    (A.fine, A.size, E)

-- ---- v = 4 a in doubles
times_e : Fx
times_e = fv 0 *f fc (ratio 4 1) (whole 4 0)

times-test : T (closes times_e a_top v_top (2 ^ 204))
unfolding closes times_e round
times-test = tt

times-four : (a : Float) → T (finite a) → Abs (val a) a_top → Close v_top (2 ^ 204) (fourfold (val a)) (mul binary64 a (ratio 4 1))
unfolding times_e same_q
times-four a f h = subst (λ x. Close v_top (2 ^ 204) x (mul binary64 a (ratio 4 1)))
    (ring_q ((val a) ∷ []) (rv 0 ⊗ nat 4) ((rv 0 ⊕ rv 0) ⊕ (rv 0 ⊕ rv 0)) tt) (computed times_e a_top v_top (2 ^ 204) times-test a f h)

-- ---- together. The variables: S(v) - S(4 a), q, C(v) - C(4 a), S(4 a) - q C(4 a), q - t, C(v)
whole_e : Rx
whole_e = rv 0 ⊖ rv 1 ⊗ rv 2 ⊕ rv 3 ⊕ rv 4 ⊗ rv 5

wholeβ : List ℕ
wholeβ = 2 ^ 205 ∷ q_top ∷ 2 ^ 205 ∷ 96 * 2 ^ 204 ∷ 2 ^ 204 ∷ 2 ^ 257 ∷ []

whole-test : T (bounds wholeβ whole_e (2 ^ 211))
unfolding bounds wholeβ whole_e
whole-test = tt

whole_parts : (S C S₄ C₄ q t : ℚ) → ev_r ((S -q S₄) ∷ q ∷ (C -q C₄) ∷ (S₄ -q q *q C₄) ∷ (q -q t) ∷ C ∷ []) whole_e ≡ S -q t *q C
unfolding same_q whole_e
whole_parts S C S₄ C₄ q t =
    ring_q (S ∷ C ∷ S₄ ∷ C₄ ∷ q ∷ t ∷ []) ((rv 0 ⊖ rv 2) ⊖ rv 4 ⊗ (rv 1 ⊖ rv 3) ⊕ (rv 2 ⊖ rv 4 ⊗ rv 3) ⊕ (rv 4 ⊖ rv 5) ⊗ rv 1) (rv 0 ⊖ rv 5 ⊗ rv 1) tt

grows : T (sine_grows (2 ^ 204) v_top (2 ^ 205) && cosine_grows (2 ^ 204) v_top (2 ^ 205))
unfolding sine_grows cosine_grows
grows = tt

top-test : T (cosine_fits v_top (2 ^ 257))
unfolding cosine_fits
top-test = tt

-- C(v) is at least 1 - 43/64
one_e : Rx
unfolding cosine_x
one_e = cosine_x (rv 0) ⊖ nat 1

one-test : (v : ℚ) → T (leb (bnd_r v v_top one_e) (43 * 2 ^ 250))
unfolding bnd_r one_e
one-test v = tt

cosine-low : (v : ℚ) → Abs v v_top → Abs (cosine_sum42 v -q qn 1) (43 * 2 ^ 250)
unfolding one_e
cosine-low v h =
    abs-eq (ev_r (v ∷ []) one_e) (cosine_sum42 v -q qn 1) (43 * 2 ^ 250) (ap (λ c. c -q qn 1) (cosine_x-ok (v ∷ []) (rv 0)))
    (bounded one_e v_top (43 * 2 ^ 250) v (one-test v) h)

-- C + t S ≥ 1/4, by C (1 + t²) + t (S - t C)
ahead_of : (S C t : ℚ) → 0≤ t → 0≤ (qn 1 -q t) → Abs (S -q t *q C) (2 ^ 211) → Abs (C -q qn 1) (43 * 2 ^ 250) → 0≤ (C +q t *q S -q iv (2 ^ 254))
unfolding same_q den comb iv U
ahead_of S C t p q e c =
    let s = rv 0 in let k = rv 1 in let x = rv 2 in
    by-nn (S ∷ C ∷ t ∷ []) [] tt (x ∷ (nat 1 ⊖ x) ∷ (rat (iv_f (2 ^ 211)) ⊕ (s ⊖ x ⊗ k)) ∷ (rat (iv_f (43 * 2 ^ 250)) ⊕ (k ⊖ nat 1)) ∷ [])
    (p, (q, (e.1, (c.1, tt)))) []
    (hyp 3 ⊞ hyp 0 ⊠ hyp 0 ⊠ hyp 3 ⊞ num 21 63 ⊠ hyp 0 ⊠ hyp 0 ⊞ hyp 0 ⊠ hyp 2 ⊞ num 1 (2 ^ 45 - 1) ⊠ hyp 1 ⊞ num (5 * 2 ^ 39 - 1) (2 ^ 45 - 1))
    (k ⊕ x ⊗ s ⊖ rat (iv_f (2 ^ 254))) tt

-- ---- the point (X, Y) is seen under the angle v: Y C - X S is at most E / U, X C + Y S at least G / U; and |v| ≤ B / U
pub record Seen (E G B : ℕ) (X Y : ℚ) (v : Float) : Type 0 where
  pub fine : T (finite v)
  pub size : Abs (val v) B
  pub off : Abs (Y *q cosine_sum42 (val v) -q X *q sine_sum41 (val v)) E
  pub ahead : 0≤ (X *q cosine_sum42 (val v) +q Y *q sine_sum41 (val v) -q iv G)

pub octant-near : (a b : Float) → T (finite a) → T (finite b) → T (not (leq (val a) (qn 0))) → 0≤ (val b) → val b ≤q val a
    → Seen (2 ^ 211) (2 ^ 254) v_top (qn 1) (val b *q inv (val a)) (octant (div binary64 b a))
unfolding octant wholeβ same
octant-near a b fa fb p n l =
    let q = div binary64 b a in let k = arc_sum (half_tangent (half_tangent q)) in
    let v = mul binary64 k (ratio 4 1) in let t = val b *q inv (val a) in
    let t0 = share-low (val a) (val b) p n l in let t1 = share-top (val a) (val b) p n l in
    let Q = quotient a b fa fb p (unit t t0 t1) in let F = fourth q Q.0 Q.1 in
    let M = times-four k F.0 F.1 in let S = sine_sum41 (val v) in
    let C = cosine_sum42 (val v) in let S₄ = sine_sum41 (fourfold (val k)) in
    let C₄ = cosine_sum42 (fourfold (val k)) in
    let g = both (sine_grows (2 ^ 204) v_top (2 ^ 205)) (cosine_grows (2 ^ 204) v_top (2 ^ 205)) grows in
    let ρ : List ℚ = (S -q S₄) ∷ val q ∷ (C -q C₄) ∷ (S₄ -q val q *q C₄) ∷ (val q -q t) ∷ C ∷ [] in
    let e : Abs (S -q t *q C) (2 ^ 211) = abs-eq (ev_r ρ whole_e) (S -q t *q C) (2 ^ 211) (whole_parts S C S₄ C₄ (val q) t)
    (bound ρ wholeβ (
      sine-grows (2 ^ 204) v_top (2 ^ 205) g.0 (val v) (fourfold (val k)) M.size M.exact-size M.near,
      (
        Q.1,
        (
          cosine-grows (2 ^ 204) v_top (2 ^ 205) g.1 (val v) (fourfold (val k)) M.size M.exact-size M.near,
          (F.2, (Q.2, (cosine-top v_top (2 ^ 257) top-test (val v) M.size, tt))),
        ),
      ),
    )
    whole_e (2 ^ 211) whole-test) in
    record {
      fine = M.fine;
      size = M.size;
      off = abs-eq (negq (S -q t *q C)) (t *q C -q qn 1 *q S) (2 ^ 211)
          (ring (S ∷ C ∷ t ∷ []) (ng (var 0 :- var 2 :* var 1)) (var 2 :* var 1 :- con 1 :* var 0) tt) (abs_neg (S -q t *q C) (2 ^ 211) e);
      ahead = subst (λ z. 0≤ (z -q iv (2 ^ 254)))
          (ring (C ∷ (t *q S) ∷ []) (var 0 :+ var 1) (con 1 :* var 0 :+ var 1) tt) (ahead_of S C t t0 t1 e (cosine-low (val v) M.size));
    }
