-- The sine and the cosine that `sin_cos_of` answers are within 2 ^ -40 of the exact sums through
-- the powers 41 and 42: `sin-cos-near`, for every angle that it accepts.
-- The float computation at an angle halved k times and doubled i times is bounded by the error checker (`db`),
-- against the same computation in fractions; at i = k that is a polynomial in the angle, which a computed test compares with
-- the exact sum, coefficient by coefficient (`polys`).
use Rattle.std.specs.Prelude.{◌≡◌, refl, ◌⊎◌, List, [], ◌∷◌, Bool, true, false, not, cond, ◌&&◌, ℕ, zero, suc, ◌+◌, ◌-◌, ◌^◌, ◌≤◌, ◌<◌, min, T, leb, Float}
use Rattle.std.proofs.Common.{sym, ap, ◌∙◌, subst, inl, inr, true≢false, zero-add, arith, leb→le, lit<, lit≤}
use Rattle.std.proofs.Math.Dec.{nleb→lt}
use Rattle.std.specs.Float.{nan, inf, fin}
use Rattle.std.specs.Float.Ieee.{round, neg, lt, le}
use Rattle.std.specs.Float.Ieee.Fits.{and_l, and_r}
use Rattle.std.specs.Float.Ieee.Bits.{is_true}
use Rattle.std.specs.Float.Ieee.Scale.{finite}
use mathlib.Core.Quot
use Rattle.exact.specs.Rat.{ℚ, Fr, mk, qn, whole, leq, ◌+q◌, ◌-q◌, ◌≤q◌, ≤q-sub, sub-≤q, 0≤-mul, ≤-mk}
use Rattle.exact.specs.Abs.{U, iv, iv_f, 0≤, Abs, abs-eq, abs-add, abs-mono}
use Rattle.exact.specs.RingQ.{Rx, rv, rat, ◌⊕◌, ◌⊖◌, ◌⊗◌, ev_r, same_q, ring_q, bnd_r, bnd_r-ok}
use Rattle.exact.specs.Cert.{nat, by-nn, Nns, hyp, num, ◌⊞◌, ◌⊠◌, comb, den}
use Rattle.exact.specs.Val.{val}
use Rattle.exact.specs.Compare.{lt_val, le_val}
use Rattle.exact.specs.Check.{Fx, fv, fc, ◌+f◌, ◌-f◌, ◌*f◌, run, exact, Bd, bd, mag, err, ok, chk, Rel, Good, sound, free, known, to_r, to_r-ok, plain}
use Rattle.exact.specs.Given.{given}
use Rattle.exact.specs.Relative.{Near, tiny}
use Rattle.std.specs.Prelude.{Result, Ok, Err}
use Rattle.arith.specs.Fault.{CollisionError, ArithmeticOverflow}
use Rattle.arith.specs.Real.{◌⊗◌ as ◌·◌, ratio}
use Rattle.arith.specs.Angle.{factorial, horner, part, neg_part, sine_sum, cosine_sum, sums_at, doubled, halved_of, sin_cos_of}
use Rattle.arith.specs.ExactSums.{factorial-pos, sine_sum41, cosine_sum42}
use Rattle.arith.specs.Laws.Magnitude.{lt_no}
use Rattle.arith.specs.Laws.ExactSums.{sine_r, cosine_r, sine-poly, cosine-poly}
use Rattle.arith.specs.declared.angle.SineCosine.{SineCosine}

-- ---- the computations as expressions for the checker
-- 1 / k! and -1 / k!
abbrev plus_e : ℕ → Fx
plus_e k = fc (part (factorial k)) (record { p = 1; n = 0; d = factorial k; dp = factorial-pos k })

abbrev minus_e : ℕ → Fx
minus_e k = fc (neg_part (factorial k)) (record { p = 0; n = 1; d = factorial k; dp = factorial-pos k })

whole_e : ℕ → Fx
whole_e n = fc (ratio n 1) (whole n 0)

abbrev half_f : Fr
half_f = record { p = 1; n = 0; d = 2; dp = lit< tt }

half_e : Fx
half_e = fc (ratio 1 2) half_f

horner_e : Fx → Fx → List Fx → Fx
horner_e z a [] = a
horner_e z a (c ∷ cs) = horner_e z (a *f z +f c) cs

sine_e : Fx → Fx
unfolding horner_e
sine_e x = horner_e (x *f x) (plus_e 13) (minus_e 11 ∷ plus_e 9 ∷ minus_e 7 ∷ plus_e 5 ∷ minus_e 3 ∷ plus_e 1 ∷ []) *f x

cosine_e : Fx → Fx
unfolding horner_e
cosine_e x = horner_e (x *f x) (minus_e 14) (plus_e 12 ∷ minus_e 10 ∷ plus_e 8 ∷ minus_e 6 ∷ plus_e 4 ∷ minus_e 2 ∷ plus_e 0 ∷ [])

step_s : Fx → Fx → Fx
unfolding whole_e
step_s s c = whole_e 2 *f s *f c

step_c : Fx → Fx
unfolding whole_e
step_c s = whole_e 1 -f whole_e 2 *f s *f s

halved : ℕ → Fx
unfolding half_e
halved zero = fv 0
halved (suc k) = halved k *f half_e

-- after k halvings and i doublings
fs : ℕ → ℕ → Fx × Fx
unfolding sine_e cosine_e halved step_s step_c
fs k zero = (sine_e (halved k), cosine_e (halved k))
fs k (suc i) = (step_s (fs k i).0 (fs k i).1, step_c (fs k i).0)

-- the exact values
X : ℚ → ℕ → ℚ
unfolding halved
X h k = exact (h ∷ []) (halved k)

S : ℚ → ℕ → ℕ → ℚ
unfolding fs
S h k i = exact (h ∷ []) (fs k i).0

C : ℚ → ℕ → ℕ → ℚ
unfolding fs
C h k i = exact (h ∷ []) (fs k i).1

-- the definitions are these computations
sine-runs : (x : Float) → run (x ∷ []) (sine_e (fv 0)) ≡ sine_sum x
unfolding sine_e sine_sum horner factorial
sine-runs x = refl

cosine-runs : (x : Float) → run (x ∷ []) (cosine_e (fv 0)) ≡ cosine_sum x
unfolding cosine_e cosine_sum horner factorial
cosine-runs x = refl

-- ---- the bounds
abbrev one_of : Bd → ℕ × ℕ
one_of b = (mag b, err b)

-- after k halvings of an angle of at most 4
bx : ℕ → Bd
unfolding chk half_e round
bx zero = bd (2 ^ 258) 0 true
bx (suc k) = chk (one_of (bx k) ∷ []) (fv 0 *f half_e)

abbrev xmax : ℕ
xmax = 2 ^ 255 + 2 ^ 206

xm : ℕ → ℕ
unfolding bx
xm k = min xmax (mag (bx k))

β₀ : ℕ → List (ℕ × ℕ)
unfolding xm
β₀ k = (xm k, err (bx k)) ∷ []

-- after k halvings and i doublings
db : ℕ → ℕ → Bd × Bd
unfolding chk β₀ sine_e cosine_e step_s step_c round neg factorial
db k zero = (chk (β₀ k) (sine_e (fv 0)), chk (β₀ k) (cosine_e (fv 0)))
db k (suc i) = let β = one_of (db k i).0 ∷ one_of (db k i).1 ∷ [] in (chk β (step_s (fv 0) (fv 1)), chk β (step_c (fv 0)))

-- a test at 0 to 3
all3 : (P : ℕ → Bool) → T (P 0) → T (P 1) → T (P 2) → T (P 3) → (k : ℕ) → k ≤ 3 → T (P k)
all3 P a b c d zero h = a
all3 P a b c d (suc zero) h = b
all3 P a b c d (suc (suc zero)) h = c
all3 P a b c d (suc (suc (suc zero))) h = d
all3 P a b c d (suc (suc (suc (suc k)))) h = absurd (omega arith)

bx-ok : (k : ℕ) → k ≤ 3 → T (ok (bx k))
unfolding bx
bx-ok = all3 (λ k. ok (bx k)) tt tt tt tt

bx-err : (k : ℕ) → k ≤ 3 → err (bx k) ≤ 2 ^ 206
unfolding bx
bx-err k h = leb→le (err (bx k)) (2 ^ 206) (all3 (λ k. leb (err (bx k)) (2 ^ 206)) tt tt tt tt k h)

db-ok : (k : ℕ) → k ≤ 3 → (i : ℕ) → i ≤ 3 → T (ok (db k i).0 && ok (db k i).1)
unfolding db
db-ok k h i l = all3 (λ i. P i k) (all3 (P 0) tt tt tt tt k h) (all3 (P 1) tt tt tt tt k h) (all3 (P 2) tt tt tt tt k h) (all3 (P 3) tt tt tt tt k h) i l
  where
    P : ℕ → ℕ → Bool
    P i k = ok (db k i).0 && ok (db k i).1

db-err : (k : ℕ) → k ≤ 3 → T (leb (err (db k k).0) (2 ^ (256 - 41)) && leb (err (db k k).1) (2 ^ (256 - 41)))
unfolding db
db-err k h = all3 (λ k. leb (err (db k k).0) (2 ^ (256 - 41)) && leb (err (db k k).1) (2 ^ (256 - 41))) tt tt tt tt k h

-- ---- halving
x-start : (h : Float) → T (finite h) → 0≤ (val h) → 0≤ (qn 4 -q val h) → Rel h (X (val h) 0) (bx 0)
unfolding X bx same_q den comb iv U
x-start h f a b =
    given h (2 ^ 258) (
      f,
      (
        by-nn (val h ∷ []) [] tt (rv 0 ∷ (nat 4 ⊖ rv 0) ∷ []) (a, (b, tt)) [] (hyp 1) (rat (iv_f (2 ^ 258)) ⊖ rv 0) tt,
        by-nn (val h ∷ []) [] tt (rv 0 ∷ (nat 4 ⊖ rv 0) ∷ []) (a, (b, tt)) [] (hyp 0 ⊞ num 4 0) (rat (iv_f (2 ^ 258)) ⊕ rv 0) tt,
      ),
    )

x-step : (h : ℚ) (x : Float) (k : ℕ) → suc k ≤ 3 → Rel x (X h k) (bx k) → Rel (x · ratio 1 2) (X h (suc k)) (bx (suc k))
unfolding X bx chk
x-step h x k l r = sound (x ∷ []) (X h k ∷ []) (one_of (bx k) ∷ []) (r, tt) (fv 0 *f half_e) (tt, tt) (bx-ok (suc k) l)

X-nn : (h : ℚ) (k : ℕ) → 0≤ h → 0≤ (X h k)
unfolding X
X-nn h zero p = p
X-nn h (suc k) p = 0≤-mul (X h k) (mk half_f) (X-nn h k p) (≤-mk (whole 0 0) half_f (lit≤ tt))

half-val : iv (2 ^ 255) ≡ val (ratio 1 2)
unfolding iv U round
half-val = Quot.sound refl

half-finite : T (finite (ratio 1 2))
unfolding round
half-finite = tt

-- the test x ≤ 1/2 passed
X-tested : (h : ℚ) (x : Float) (k : ℕ) → k ≤ 3 → 0≤ h → Rel x (X h k) (bx k) → le x (ratio 1 2) ≡ true → Abs (X h k) xmax
unfolding same_q den comb iv U
X-tested h x k l p r t =
    let e = abs-mono (val x -q X h k) (err (bx k)) (2 ^ 206) (bx-err k l) r.2 in
    let g : 0≤ (iv (2 ^ 255) -q val x) =
    subst (λ z. 0≤ (z -q val x)) (sym half-val) (≤q-sub (val x) (val (ratio 1 2)) (subst T (sym t ∙ le_val x (ratio 1 2) r.0 half-finite) tt)) in
    let ρ : List ℚ = X h k ∷ val x ∷ [] in
    let H : List Rx = rv 0 ∷ (rat (iv_f (2 ^ 255)) ⊖ rv 1) ∷ (rat (iv_f (2 ^ 206)) ⊕ (rv 1 ⊖ rv 0)) ∷ [] in
    let P : Nns ρ H = (X-nn h k p, (g, (e.1, tt))) in (
      by-nn ρ [] tt H P [] (hyp 1 ⊞ hyp 2) (rat (iv_f xmax) ⊖ rv 0) tt,
      by-nn ρ [] tt H P [] (hyp 0 ⊞ num 562949953421313 1125899906842623) (rat (iv_f xmax) ⊕ rv 0) tt,
    )

-- and after three halvings of an angle of at most 4 it need not be made
X-third : (h : ℚ) → 0≤ h → 0≤ (qn 4 -q h) → Abs (X h 3) xmax
unfolding same_q den comb iv U X
X-third h a b =
    let H : List Rx = rv 0 ∷ (nat 4 ⊖ rv 0) ∷ [] in
    let e = rv 0 ⊗ rat half_f ⊗ rat half_f ⊗ rat half_f in (
      by-nn (h ∷ []) [] tt H (a, (b, tt)) [] (num 1 7 ⊠ hyp 1 ⊞ num 1 1125899906842623) (rat (iv_f xmax) ⊖ e) tt,
      by-nn (h ∷ []) [] tt H (a, (b, tt)) [] (num 1 7 ⊠ hyp 0 ⊞ num 562949953421313 1125899906842623) (rat (iv_f xmax) ⊕ e) tt,
    )

-- ---- the sums and the doubling
min-or : (a b : ℕ) → (min a b ≡ a) ⊎ (min a b ≡ b)
min-or a b = go (leb a b) (leb→le a b) (nleb→lt a b)
  where
    go : (t : Bool) → (T t → a ≤ b) → (T (not t) → b < a) → (min a b ≡ a) ⊎ (min a b ≡ b)
    go true f g = inl (let h = f tt in omega arith)
    go false f g = inr (let h = g tt in omega arith)

X-xm : (x : ℚ) (k : ℕ) → Abs x xmax → Abs x (mag (bx k)) → Abs x (xm k)
unfolding xm
X-xm x k a b = go (min-or xmax (mag (bx k)))
  where
    go : (min xmax (mag (bx k)) ≡ xmax) ⊎ (min xmax (mag (bx k)) ≡ mag (bx k)) → Abs x (min xmax (mag (bx k)))
    go (inl e) = subst (Abs x) (sym e) a
    go (inr e) = subst (Abs x) (sym e) b

-- t is near the exact sine and cosine of the angle halved k times and doubled i times
abbrev Turned : ℚ → ℕ → ℕ → SineCosine → Type 0
Turned h k i t = Rel t.s (S h k i) (db k i).0 × Rel t.c (C h k i) (db k i).1

start : (h : ℚ) (x : Float) (k : ℕ) → k ≤ 3 → Abs (X h k) xmax → Rel x (X h k) (bx k) → Turned h k 0 (sums_at x)
unfolding S C X db chk β₀ free sums_at
start h x k l m r =
    let g : Good (x ∷ []) (X h k ∷ []) (β₀ k) = ((r.0, X-xm (X h k) k m r.1, r.2), tt) in
    let o = db-ok k l 0 (lit≤ tt) in (
      subst (λ f. Rel f (S h k 0) (db k 0).0) (sine-runs x)
          (sound (x ∷ []) (X h k ∷ []) (β₀ k) g (sine_e (fv 0)) (known (X h k ∷ []) (sine_e (fv 0)) tt) (and_l (ok (db k 0).0) (ok (db k 0).1) o)),
      subst (λ f. Rel f (C h k 0) (db k 0).1) (cosine-runs x)
          (sound (x ∷ []) (X h k ∷ []) (β₀ k) g (cosine_e (fv 0)) (known (X h k ∷ []) (cosine_e (fv 0)) tt) (and_r (ok (db k 0).0) (ok (db k 0).1) o)),
    )

again : (h : ℚ) (t : SineCosine) (k i : ℕ) → k ≤ 3 → suc i ≤ 3 → Turned h k i t → Turned h k (suc i) (doubled t)
unfolding S C db chk free doubled
again h t k i l m a =
    let β : List (ℕ × ℕ) = one_of (db k i).0 ∷ one_of (db k i).1 ∷ [] in
    let σ : List ℚ = S h k i ∷ C h k i ∷ [] in
    let g : Good (t.s ∷ t.c ∷ []) σ β = (a.0, (a.1, tt)) in
    let o = db-ok k l (suc i) m in (
      sound (t.s ∷ t.c ∷ []) σ β g (step_s (fv 0) (fv 1)) (known σ (step_s (fv 0) (fv 1)) tt) (and_l (ok (db k (suc i)).0) (ok (db k (suc i)).1) o),
      sound (t.s ∷ t.c ∷ []) σ β g (step_c (fv 0)) (known σ (step_c (fv 0)) tt) (and_r (ok (db k (suc i)).0) (ok (db k (suc i)).1) o),
    )

-- ---- `halved_of`: it stops at K halvings in all, and doubles as often as it halved
record Stops (h : ℚ) (k : ℕ) (t : SineCosine) : Type 0 where
  K : ℕ
  i : ℕ
  sum : i + k ≡ K
  few : K ≤ 3
  angle : Abs (X h K) xmax
  turned : Turned h K i t

stops-here : (h : ℚ) (x : Float) (k : ℕ) → k ≤ 3 → Abs (X h k) xmax → Rel x (X h k) (bx k) → Stops h k (sums_at x)
stops-here h x k l m r = record { K = k; i = 0; sum = zero-add k; few = l; angle = m; turned = start h x k l m r }

stops-later : (h : ℚ) (t : SineCosine) (k : ℕ) → Stops h (suc k) t → Stops h k (doubled t)
stops-later h t k s = record {
  K = s.K;
  i = suc s.i;
  sum = omega (arith, s.sum);
  few = s.few;
  angle = s.angle;
  turned = again h t s.K s.i s.few (omega (arith, s.sum, s.few)) s.turned;
}

stops : (h : ℚ) → 0≤ h → 0≤ (qn 4 -q h) → (j k : ℕ) → j + k ≡ 3 → (x : Float) → Rel x (X h k) (bx k) → Stops h k (halved_of j x)
unfolding halved_of
stops h a b zero k e x r = stops-here h x k (omega arith) (subst (λ n. Abs (X h n) xmax) (sym e ∙ zero-add k) (X-third h a b)) r
stops h a b (suc j) k e x r = go (le x (ratio 1 2)) refl (stops h a b j (suc k) (omega arith) (x · ratio 1 2) (x-step h x k (omega arith) r))
  where
    m : k ≤ 3
    m = omega arith

    go : (b : Bool) → le x (ratio 1 2) ≡ b → Stops h (suc k) (halved_of j (x · ratio 1 2))
        → Stops h k (cond b (sums_at x) (doubled (halved_of j (x · ratio 1 2))))
    go true t s = stops-here h x k m (X-tested h x k m a r t) r
    go false t s = stops-later h (halved_of j (x · ratio 1 2)) k s

-- ---- the polynomials against the exact sums
grow : ℕ → ℕ → ℕ
grow zero m = m
grow (suc k) m = grow k (m + m)

h-abs : (h : ℚ) (k m : ℕ) → Abs (X h k) m → Abs h (grow k m)
unfolding grow X same_q
h-abs h zero m a = a
h-abs h (suc k) m a =
    h-abs h k (m + m) (abs-eq (X h (suc k) +q X h (suc k)) (X h k) (m + m)
    (ring_q (X h k ∷ []) (rv 0 ⊗ rat half_f ⊕ rv 0 ⊗ rat half_f) (rv 0) tt) (abs-add (X h (suc k)) (X h (suc k)) m m a a))

close : ℚ → ℕ → Fx → Rx → Bool
unfolding bnd_r to_r grow plain
close x k e p = leb (bnd_r x (grow k xmax) (to_r e ⊖ p)) (2 ^ (256 - 41)) && plain e

polys : (x : ℚ) (k : ℕ) → k ≤ 3 → T (close x k (fs k k).0 sine_r && close x k (fs k k).1 cosine_r)
unfolding close fs sine_r cosine_r
polys x k l = all3 (λ k. close x k (fs k k).0 sine_r && close x k (fs k k).1 cosine_r) tt tt tt tt k l

-- |f - g| ≤ e and |g - y| ≤ e
done : (h : ℚ) (k : ℕ) (e : Fx) (p : Rx) → T (close h k e p) → Abs (X h k) xmax → (f : ℚ)
    → Abs (f -q exact (h ∷ []) e) (2 ^ (256 - 41)) → Abs (f -q ev_r (h ∷ []) p) (2 ^ (256 - 40))
unfolding close same_q
done h k e p t m f A =
    let d = to_r e ⊖ p in let N = 2 ^ (256 - 41) in let g = exact (h ∷ []) e in
    let y = ev_r (h ∷ []) p in let t1 = and_l (leb (bnd_r h (grow k xmax) d) N) (plain e) t in
    let t2 = and_r (leb (bnd_r h (grow k xmax) d) N) (plain e) t in
    let B = abs-mono (ev_r (h ∷ []) d) (bnd_r h (grow k xmax) d) N (leb→le (bnd_r h (grow k xmax) d) N t1) (bnd_r-ok h (grow k xmax) (h-abs h k xmax m) d) in
    let B' = abs-eq (ev_r (h ∷ []) d) (g -q y) N (ap (λ z. z -q y) (to_r-ok (h ∷ []) e t2)) B in
    abs-eq ((f -q g) +q (g -q y)) (f -q y) (2 ^ (256 - 40))
    (ring_q (f ∷ g ∷ y ∷ []) ((rv 0 ⊖ rv 1) ⊕ (rv 1 ⊖ rv 2)) (rv 0 ⊖ rv 2) tt) (abs-add (f -q g) (g -q y) N N A B')

-- ---- the law
pub record SinesNear (x : ℚ) (t : SineCosine) : Type 0 where
  pub sine-finite : T (finite t.s)
  pub cosine-finite : T (finite t.c)
  pub sine : Near (mk (tiny 40)) (val t.s) (sine_sum41 x)
  pub cosine : Near (mk (tiny 40)) (val t.c) (cosine_sum42 x)

near_of : (a b : ℚ) → Abs (a -q b) (2 ^ (256 - 40)) → Near (mk (tiny 40)) a b
unfolding same_q den comb iv U
near_of a b h =
    let H : List Rx = (rat (iv_f (2 ^ (256 - 40))) ⊖ (rv 0 ⊖ rv 1)) ∷ (rat (iv_f (2 ^ (256 - 40))) ⊕ (rv 0 ⊖ rv 1)) ∷ [] in
    let ρ : List ℚ = a ∷ b ∷ [] in (
      sub-≤q a (b +q mk (tiny 40)) (by-nn ρ [] tt H (h.0, (h.1, tt)) [] (hyp 0) (rv 1 ⊕ rat (tiny 40) ⊖ rv 0) tt),
      sub-≤q b (a +q mk (tiny 40)) (by-nn ρ [] tt H (h.0, (h.1, tt)) [] (hyp 1) (rv 0 ⊕ rat (tiny 40) ⊖ rv 1) tt),
    )

add_none : (i k : ℕ) → i + 0 ≡ k → i ≡ k
add_none i k e = omega arith

pub turn_near : (h : Float) → T (finite h) → qn 0 ≤q val h → val h ≤q qn 4 → SinesNear (val h) (halved_of 3 h)
unfolding S C
turn_near h f a b =
    let x = val h in let t = halved_of 3 h in let b' = ≤q-sub x (qn 4) b in
    let st = stops x a b' 3 0 refl h (x-start h f a b') in let k = st.K in
    let N = 2 ^ (256 - 41) in
    let r = subst (λ i. Turned x k i t) (add_none st.i k st.sum) st.turned in
    let o = polys x k st.few in let u = db-err k st.few in
    let P = close x k (fs k k).0 sine_r in let Q = close x k (fs k k).1 cosine_r in
    let es = leb→le (err (db k k).0) N (and_l (leb (err (db k k).0) N) (leb (err (db k k).1) N) u) in
    let ec = leb→le (err (db k k).1) N (and_r (leb (err (db k k).0) N) (leb (err (db k k).1) N) u) in
    record {
      sine-finite = r.0.0;
      cosine-finite = r.1.0;
      sine = subst (Near (mk (tiny 40)) (val t.s)) (sine-poly x) (near_of (val t.s) (ev_r (x ∷ []) sine_r)
          (done x k (fs k k).0 sine_r (and_l P Q o) st.angle (val t.s) (abs-mono (val t.s -q S x k k) (err (db k k).0) N es r.0.2)));
      cosine = subst (Near (mk (tiny 40)) (val t.c)) (cosine-poly x) (near_of (val t.c) (ev_r (x ∷ []) cosine_r)
          (done x k (fs k k).1 cosine_r (and_r P Q o) st.angle (val t.c) (abs-mono (val t.c -q C x k k) (err (db k k).1) N ec r.1.2)));
    }

-- ---- which angles `sin_cos_of` accepts: those that are finite, from 0 to 4 (-0 too)
zero_val : val (ratio 0 1) ≡ qn 0
unfolding round
zero_val = Quot.sound refl

four-val : val (ratio 4 1) ≡ qn 4
unfolding round
four-val = Quot.sound refl

small-finite : (n : ℕ) → n ≡ 0 ⊎ n ≡ 4 → T (finite (ratio n 1))
unfolding round
small-finite n (inl e) = subst (λ n. T (finite (ratio n 1))) (sym e) tt
small-finite n (inr e) = subst (λ n. T (finite (ratio n 1))) (sym e) tt

accepted-finite : (h : Float) → lt h (ratio 0 1) ≡ false → le h (ratio 4 1) ≡ true → T (finite h)
unfolding lt le round
accepted-finite nan p q = absurd (true≢false (sym q))
accepted-finite (inf true) p q = absurd (true≢false p)
accepted-finite (inf false) p q = absurd (true≢false (sym q))
accepted-finite (fin s m e) p q = tt

pub sin-cos-accepts : (h : Float) → T (finite h) → qn 0 ≤q val h → val h ≤q qn 4 → sin_cos_of h ≡ Ok (halved_of 3 h)
unfolding sin_cos_of
sin-cos-accepts h f a b =
    let p : lt h (ratio 0 1) ≡ false = lt_val h (ratio 0 1) f (small-finite 0 (inl refl))
    ∙ ap not (is_true (leq (val (ratio 0 1)) (val h)) (subst (λ z. z ≤q val h) (sym zero_val) a)) in
    let q : le h (ratio 4 1) ≡ true = le_val h (ratio 4 1) f (small-finite 4 (inr refl))
    ∙ is_true (leq (val h) (val (ratio 4 1))) (subst (λ z. val h ≤q z) (sym four-val) b) in
    ap (λ c. cond c (Err ArithmeticOverflow) (cond (le h (ratio 4 1)) (Ok (halved_of 3 h)) (Err ArithmeticOverflow))) p
    ∙ ap (λ c. cond c (Ok (halved_of 3 h)) (Err ArithmeticOverflow)) q

no_value : (t : SineCosine) → Err ArithmeticOverflow ≡ Ok t → ⊥
no_value t e = let z : ◌≡◌ {A = ℕ} 0 1 = cc in omega arith

pub record Accepted (h : Float) (t : SineCosine) : Type 0 where
  pub is_finite : T (finite h)
  pub low : qn 0 ≤q val h
  pub high : val h ≤q qn 4
  pub is : halved_of 3 h ≡ t

pub sin-cos-accepted : (h : Float) (t : SineCosine) → sin_cos_of h ≡ Ok t → Accepted h t
unfolding sin_cos_of
sin-cos-accepted h t e = go (lt h (ratio 0 1)) (le h (ratio 4 1)) refl refl e
  where
    go : (a b : Bool) → lt h (ratio 0 1) ≡ a → le h (ratio 4 1) ≡ b
        → cond a (Err ArithmeticOverflow) (cond b (Ok (halved_of 3 h)) (Err ArithmeticOverflow)) ≡ Ok t → Accepted h t
    go true b p q e = absurd (no_value t e)
    go false false p q e = absurd (no_value t e)
    go false true p q e =
        let f = accepted-finite h p q in
        record {
          is_finite = f;
          low = subst (λ z. z ≤q val h) zero_val (lt_no h (ratio 0 1) f (small-finite 0 (inl refl)) p);
          high = subst (λ z. val h ≤q z) four-val (subst T (sym q ∙ le_val h (ratio 4 1) f (small-finite 4 (inr refl))) tt);
          is = cc;
        }

-- ---- for every angle that `sin_cos_of` accepts
pub sin-cos-near : (h : Float) (t : SineCosine) → sin_cos_of h ≡ Ok t → SinesNear (val h) t
sin-cos-near h t e = let a = sin-cos-accepted h t e in subst (SinesNear (val h)) a.is (turn_near h a.is_finite a.low a.high)
