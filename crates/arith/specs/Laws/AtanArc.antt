-- The odd sum a of `arc_sum` in doubles is the angle whose tangent is q: S(a) is q C(a) to
-- within 2^-51, for q of at most 1/4 and a bit. By three computed tests:
-- the doubles against the exact sum; the exact sum put into short sums of sine and cosine, as a polynomial in q²; the short sums against the exact ones.
use Rattle.std.specs.Prelude.{◌≡◌, refl, List, [], ◌∷◌, Bool, true, false, not, ◌&&◌, ℕ, zero, suc, ◌+◌, ◌-◌, ◌*◌, ◌^◌, T, leb, Float}
use Rattle.std.proofs.Common.{sym, ap, ap₂, ◌∙◌, subst, subst₂, zero-lt-suc}
use Rattle.std.specs.Float.Ieee.{round, neg}
use Rattle.std.specs.Float.Ieee.Scale.{finite}
use Rattle.exact.specs.Rat.{ℚ, Fr, ◌-q◌, ◌*q◌}
use Rattle.exact.specs.Ring.{var, ◌:*◌, same, ring}
use Rattle.exact.specs.RingQ.{Rx, rv, ◌⊕◌, ◌⊖◌, ◌⊗◌, ev_r, same_q, ring_q, bnd_r}
use Rattle.exact.specs.Cert.{bounds, bound}
use Rattle.exact.specs.Abs.{Abs, mul_up, abs-eq, abs-mul}
use Rattle.exact.specs.Val.{val, sg_f}
use Rattle.exact.specs.Check.{Fx, fv, fc, ◌+f◌, ◌*f◌, run, exact, to_r, to_r-ok, plain}
use Rattle.arith.specs.Real.{ratio}
use Rattle.arith.specs.Angle.{horner, arc_sum}
use Rattle.arith.specs.ExactSums.{sine_sum41, cosine_sum42}
use Rattle.arith.specs.Laws.AtanTests.{both, bounded, Close, closes, computed}
use Rattle.arith.specs.Laws.AtanSums.{poly, poly_r, poly_r-ok, coefs, σ, γ, sine-is, cosine-is, sine_grows, cosine_grows, sine-grows, cosine-grows}

-- |q| ≤ 1/4 + 2^-48
abbrev pub arc_top : ℕ
arc_top = 2 ^ 254 + 2 ^ 208

-- ---- the computation in doubles, and its coefficients
coef_e : Bool → ℕ → Fx
coef_e false n = fc (ratio 1 (suc n)) (sg_f false 1 (suc n) (zero-lt-suc n))
coef_e true n = fc (neg (ratio 1 (suc n))) (sg_f true 1 (suc n) (zero-lt-suc n))

-- Horner's rule from the coefficient e on: k more, the next one 1 / (n + 1) with the sign s
horner_e : Bool → ℕ → ℕ → Fx → Fx
unfolding coef_e
horner_e s zero n e = e
horner_e s (suc k) n e = horner_e (not s) k (n - 2) (e *f (fv 0 *f fv 0) +f coef_e s n)

arc_e : Fx
unfolding horner_e
arc_e = horner_e false 11 20 (coef_e true 22) *f fv 0

arcs : Bool → ℕ → ℕ → List Fr
arcs s zero n = []
arcs s (suc k) n = sg_f s 1 (suc n) (zero-lt-suc n) ∷ arcs (not s) k (n + 2)

-- 1, -1/3 .. -1/23
arc_c : List Fr
unfolding arcs
arc_c = arcs false 12 0

arc-run : (q : Float) → run (q ∷ []) arc_e ≡ arc_sum q
unfolding arc_e arc_sum horner
arc-run q = refl

arc-same : (q : ℚ) → exact (q ∷ []) arc_e ≡ q *q poly arc_c (q *q q)
unfolding arc_e arc_c same_q to_r plain poly_r
arc-same q =
    sym (to_r-ok (q ∷ []) arc_e tt) ∙ ring_q (q ∷ []) (to_r arc_e) (rv 0 ⊗ poly_r arc_c (rv 0 ⊗ rv 0)) tt
    ∙ ap (λ z. q *q z) (poly_r-ok (q ∷ []) arc_c (rv 0 ⊗ rv 0))

-- |a| ≤ 17/64
abbrev pub a_top : ℕ
a_top = 17 * 2 ^ 250

arc-test : T (closes arc_e arc_top a_top (2 ^ 203))
unfolding closes arc_e round neg
arc-test = tt

arc-near : (q : Float) → T (finite q) → Abs (val q) arc_top → Close a_top (2 ^ 203) (val q *q poly arc_c (val q *q val q)) (arc_sum q)
arc-near q f h = subst₂ (Close a_top (2 ^ 203)) (arc-same (val q)) (arc-run q) (computed arc_e arc_top a_top (2 ^ 203) arc-test q f h)

-- ---- the composition. With t = q², α the odd sum over q and z = α² t: q α σ(z) against q γ(z), for short σ and γ
short : List Fr
unfolding coefs
short = coefs false 6 1

short_c : List Fr
unfolding coefs
short_c = coefs false 7 0

composed_e : Rx
unfolding poly_r arc_c short short_c
composed_e =
    let a = poly_r arc_c (rv 0) in let z = a ⊗ a ⊗ rv 0 in
    a ⊗ poly_r short z ⊖ poly_r short_c z

composed-test : (t : ℚ) → T (leb (bnd_r t (mul_up arc_top arc_top) composed_e) (2 ^ 204))
unfolding bnd_r composed_e
composed-test t = tt

-- the short sums against the exact ones, for z ≤ (17/64)²
sine_e : Rx
unfolding poly_r σ short
sine_e = poly_r σ (rv 0) ⊖ poly_r short (rv 0)

cosine_e : Rx
unfolding poly_r γ short_c
cosine_e = poly_r γ (rv 0) ⊖ poly_r short_c (rv 0)

sine-test : (z : ℚ) → T (leb (bnd_r z (mul_up a_top a_top) sine_e) (2 ^ 201))
unfolding bnd_r sine_e
sine-test z = tt

cosine-test : (z : ℚ) → T (leb (bnd_r z (mul_up a_top a_top) cosine_e) (2 ^ 196))
unfolding bnd_r cosine_e
cosine-test z = tt

composed-ev : (t : ℚ) → let a = poly arc_c t in ev_r (t ∷ []) composed_e ≡ a *q poly short (a *q a *q t) -q poly short_c (a *q a *q t)
unfolding composed_e
composed-ev t =
    let a = poly_r arc_c (rv 0) in let z = a ⊗ a ⊗ rv 0 in
    let ρ : List ℚ = t ∷ [] in
    ap₂ (λ u v. ev_r ρ a *q u -q v) (poly_r-ok ρ short z) (poly_r-ok ρ short_c z)
    ∙ ap (λ b. b *q poly short (b *q b *q t) -q poly short_c (b *q b *q t)) (poly_r-ok ρ arc_c (rv 0))

composed : (q : ℚ) → Abs q arc_top → let a = poly arc_c (q *q q) in let z = (q *q a) *q (q *q a) in Abs (a *q poly short z -q poly short_c z) (2 ^ 204)
unfolding same
composed q h =
    let t = q *q q in let a = poly arc_c t in
    let e : a *q a *q t ≡ (q *q a) *q (q *q a) = ring (a ∷ q ∷ []) (var 0 :* var 0 :* (var 1 :* var 1)) ((var 1 :* var 0) :* (var 1 :* var 0)) tt in
    abs-eq (ev_r (t ∷ []) composed_e) (a *q poly short ((q *q a) *q (q *q a)) -q poly short_c ((q *q a) *q (q *q a))) (2 ^ 204)
    (composed-ev t ∙ ap (λ z. a *q poly short z -q poly short_c z) e)
    (bounded composed_e (mul_up arc_top arc_top) (2 ^ 204) t (composed-test t) (abs-mul q q arc_top arc_top h h))

sine-short : (z : ℚ) → Abs z (mul_up a_top a_top) → Abs (poly σ z -q poly short z) (2 ^ 201)
unfolding sine_e
sine-short z h =
    abs-eq (ev_r (z ∷ []) sine_e) (poly σ z -q poly short z) (2 ^ 201) (ap₂ ◌-q◌ (poly_r-ok (z ∷ []) σ (rv 0)) (poly_r-ok (z ∷ []) short (rv 0)))
    (bounded sine_e (mul_up a_top a_top) (2 ^ 201) z (sine-test z) h)

cosine-short : (z : ℚ) → Abs z (mul_up a_top a_top) → Abs (poly γ z -q poly short_c z) (2 ^ 196)
unfolding cosine_e
cosine-short z h =
    abs-eq (ev_r (z ∷ []) cosine_e) (poly γ z -q poly short_c z) (2 ^ 196) (ap₂ ◌-q◌ (poly_r-ok (z ∷ []) γ (rv 0)) (poly_r-ok (z ∷ []) short_c (rv 0)))
    (bounded cosine_e (mul_up a_top a_top) (2 ^ 196) z (cosine-test z) h)

-- ---- together. The variables: S(a) - S(A), q, C(a) - C(A), A, and what the three tests bound
whole_e : Rx
whole_e = rv 0 ⊖ rv 1 ⊗ rv 2 ⊕ (rv 3 ⊗ rv 4 ⊖ rv 1 ⊗ rv 5 ⊕ rv 1 ⊗ rv 6)

wholeβ : List ℕ
wholeβ = 2 ^ 204 ∷ arc_top ∷ 2 ^ 203 ∷ a_top ∷ 2 ^ 201 ∷ 2 ^ 196 ∷ 2 ^ 204 ∷ []

whole_parts : (S C q a s s' c c' : ℚ)
    → ev_r ((S -q q *q a *q s) ∷ q ∷ (C -q c) ∷ (q *q a) ∷ (s -q s') ∷ (c -q c') ∷ (a *q s' -q c') ∷ []) whole_e ≡ S -q q *q C
unfolding same_q whole_e
whole_parts S C q a s s' c c' =
    let Q = rv 2 in let A = rv 3 in let K = rv 4 in let K' = rv 5 in let L = rv 6 in let L' = rv 7 in
    ring_q (S ∷ C ∷ q ∷ a ∷ s ∷ s' ∷ c ∷ c' ∷ [])
    ((rv 0 ⊖ Q ⊗ A ⊗ K) ⊖ Q ⊗ (rv 1 ⊖ L) ⊕ (Q ⊗ A ⊗ (K ⊖ K') ⊖ Q ⊗ (L ⊖ L') ⊕ Q ⊗ (A ⊗ K' ⊖ L'))) (rv 0 ⊖ Q ⊗ rv 1) tt

whole-test : T (bounds wholeβ whole_e (2 ^ 205))
unfolding bounds wholeβ whole_e
whole-test = tt

grows : T (sine_grows (2 ^ 203) a_top (2 ^ 204) && cosine_grows (2 ^ 203) a_top (2 ^ 203))
unfolding sine_grows cosine_grows
grows = tt

pub record Arc (q a : Float) : Type 0 where
  pub fine : T (finite a)
  pub size : Abs (val a) a_top
  pub near : Abs (sine_sum41 (val a) -q val q *q cosine_sum42 (val a)) (2 ^ 205)

pub arc-tangent : (q : Float) → T (finite q) → Abs (val q) arc_top → Arc q (arc_sum q)
unfolding wholeβ
arc-tangent q f h =
    let r = arc-near q f h in let x = val q in let a = poly arc_c (x *q x) in let A = x *q a in
    let z = A *q A in let Z = abs-mul A A a_top a_top r.exact-size r.exact-size in
    let v = val (arc_sum q) in let S = sine_sum41 v in let C = cosine_sum42 v in
    let g = both (sine_grows (2 ^ 203) a_top (2 ^ 204)) (cosine_grows (2 ^ 203) a_top (2 ^ 203)) grows in
    let d_s : Abs (S -q A *q poly σ z) (2 ^ 204) =
    subst (λ w. Abs (S -q w) (2 ^ 204)) (sine-is A) (sine-grows (2 ^ 203) a_top (2 ^ 204) g.0 v A r.size r.exact-size r.near) in
    let d_c : Abs (C -q poly γ z) (2 ^ 203) =
    subst (λ w. Abs (C -q w) (2 ^ 203)) (cosine-is A) (cosine-grows (2 ^ 203) a_top (2 ^ 203) g.1 v A r.size r.exact-size r.near) in
    let ρ : List ℚ = (S -q A *q poly σ z) ∷ x ∷ (C -q poly γ z) ∷ A ∷ (poly σ z -q poly short z)
    ∷ (poly γ z -q poly short_c z) ∷ (a *q poly short z -q poly short_c z) ∷ [] in
    record {
      fine = r.fine;
      size = r.size;
      near = abs-eq (ev_r ρ whole_e) (S -q x *q C) (2 ^ 205) (whole_parts S C x a (poly σ z) (poly short z) (poly γ z) (poly short_c z))
          (bound ρ wholeβ (d_s, (h, (d_c, (r.exact-size, (sine-short z Z, (cosine-short z Z, (composed x h, tt))))))) whole_e (2 ^ 205) whole-test);
    }
