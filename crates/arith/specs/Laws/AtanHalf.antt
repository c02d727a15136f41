-- One step q' = q / (1 + sqrt(1 + q q)) in doubles: q' is q's tangent of half the angle,
-- 2 q' + q q'² = q, to within 2^-49; and q' is at most half of q and a bit. Of the square root only `Root` is used.
use Rattle.std.specs.Prelude.{◌≡◌, List, [], ◌∷◌, Bool, ◌&&◌, ℕ, ◌+◌, ◌-◌, ◌*◌, ◌^◌, ◌≤◌, T, leb, Float}
use Rattle.std.proofs.Common.{sym, ◌∙◌, leb→le, lit<}
use Rattle.std.proofs.Math.Dec.{not_T}
use Rattle.std.specs.Float.{binary64}
use Rattle.std.specs.Float.Ieee.{round, add, mul, div}
use Rattle.std.specs.Float.Ieee.Fits.{add-fits}
use Rattle.std.specs.Float.Ieee.Scale.{finite}
use Rattle.exact.specs.Rat.{ℚ, mk, qn, whole, leq, ◌+q◌, ◌-q◌, ◌*q◌, ◌≤q◌, ◌<q◌, ≤q-trans, inv, inv-ok, cancel-nn, ≤q-sub, sub-≤q, *q-comm, *q-one}
use Rattle.exact.specs.Abs.{U, iv, iv_f, 0≤, Abs, mul_up, div_up, abs-eq, abs-mono, abs-mul, abs-div, positive}
use Rattle.exact.specs.RingQ.{Rx, rv, rat, ◌⊕◌, ◌⊖◌, ◌⊗◌, ev_r, same_q}
use Rattle.exact.specs.Cert.{nat, comb, by-eqs, by-nn, Nns, hyp, sqr, num, ◌⊞◌, den, bounds, bound}
use Rattle.exact.specs.Val.{val, rnd, huge, div-err}
use Rattle.exact.specs.Check.{Fx, fv, fc, ◌+f◌, ◌*f◌, own}
use Rattle.exact.specs.Hypot.{h_f, rmax, scaled-root}
use Rattle.arith.specs.Real.{ratio}
use Rattle.arith.specs.Root.{sqrt}
use Rattle.arith.specs.Angle.{half_tangent}
use Rattle.arith.specs.Laws.AtanTests.{both, Close, closes, computed}
use Rattle.arith.specs.Laws.RootError.{quarter, root_ok}

-- 1 / 2 ^ k
abbrev part : ℕ → Rx
part k = rat (iv_f (2 ^ (256 - k)))

-- |q| ≤ 1 + 2^-50
abbrev pub q_top : ℕ
q_top = 2 ^ 256 + 2 ^ 206

-- 1 + q q ≤ 513/256
abbrev x_top : ℕ
x_top = 513 * 2 ^ 248

-- r and half a last place are at least 1 - 2^-50: the difference of the squares is a product with a positive factor
root-low : (x r : ℚ) → 0≤ r → 0≤ (x -q iv (2 ^ 256 - 2 ^ 205)) → x ≤q (r +q mk h_f) *q (r +q mk h_f) → 0≤ (r +q mk h_f -q iv (2 ^ 256 - 2 ^ 206))
unfolding same_q den comb iv U
root-low x r n l hi =
    let ρ : List ℚ = x ∷ r ∷ [] in
    let c : Rx = rat (iv_f (2 ^ 256 - 2 ^ 206)) in
    let H : List Rx = rv 1 ∷ (rv 0 ⊖ rat (iv_f (2 ^ 256 - 2 ^ 205))) ∷ ((rv 1 ⊕ rat h_f) ⊗ (rv 1 ⊕ rat h_f) ⊖ rv 0) ∷ [] in
    let P : Nns ρ H = (n, (l, (≤q-sub x ((r +q mk h_f) *q (r +q mk h_f)) hi, tt))) in
    let C = iv (2 ^ 256 - 2 ^ 206) in
    let z : 0≤ ((r +q mk h_f +q C) -q iv (2 ^ 255)) =
    by-nn ρ [] tt H P [] (hyp 0 ⊞ num (2 ^ 52 - 7) (2 ^ 53 - 1)) ((rv 1 ⊕ rat h_f ⊕ c) ⊖ rat (iv_f (2 ^ 255))) tt in
    cancel-nn (r +q mk h_f +q C) (r +q mk h_f -q C) (positive (r +q mk h_f +q C) (2 ^ 255) (lit< tt) (sub-≤q (iv (2 ^ 255)) (r +q mk h_f +q C) z))
    (by-nn ρ [] tt H P [] (hyp 2 ⊞ hyp 1 ⊞ num (2 ^ 51 - 2 ^ 49 - 1) (2 ^ 100 - 1)) ((rv 1 ⊕ rat h_f ⊕ c) ⊗ (rv 1 ⊕ rat h_f ⊖ c)) tt)

-- ---- the sums 1 + q q and 1 + r in doubles
one_e : Fx
one_e = fc (ratio 1 1) (whole 1 0)

sum_e : Fx
unfolding one_e
sum_e = one_e +f fv 0 *f fv 0

div_e : Fx
unfolding one_e
div_e = one_e +f fv 0

sum-test : T (closes sum_e q_top x_top (2 ^ 205) && closes div_e rmax (3 * 2 ^ 256) (2 ^ 205))
unfolding closes sum_e div_e one_e round
sum-test = tt

sum-tests : T (closes sum_e q_top x_top (2 ^ 205)) × T (closes div_e rmax (3 * 2 ^ 256) (2 ^ 205))
sum-tests = both (closes sum_e q_top x_top (2 ^ 205)) (closes div_e rmax (3 * 2 ^ 256) (2 ^ 205)) sum-test

-- x = 1 + q q
sum_near : (q : Float) → T (finite q) → Abs (val q) q_top → Close x_top (2 ^ 205) (qn 1 +q val q *q val q) (add binary64 (ratio 1 1) (mul binary64 q q))
unfolding sum_e one_e
sum_near q f h = computed sum_e q_top x_top (2 ^ 205) sum-tests.0 q f h

-- w = 1 + r
div-near : (r : Float) → T (finite r) → Abs (val r) rmax → Close (3 * 2 ^ 256) (2 ^ 205) (qn 1 +q val r) (add binary64 (ratio 1 1) r)
unfolding div_e one_e
div-near r f h = computed div_e rmax (3 * 2 ^ 256) (2 ^ 205) sum-tests.1 r f h

-- ---- the divisor is at least 2 - 2^-49, so its inverse is at most 1/2 + 2^-50
abbrev w_low : ℕ
w_low = 2 ^ 257 - 2 ^ 207

abbrev pub i_top : ℕ
i_top = 2 ^ 255 + 2 ^ 206

x-low : (q x : ℚ) → Abs (x -q (qn 1 +q q *q q)) (2 ^ 205) → 0≤ (x -q iv (2 ^ 256 - 2 ^ 205))
unfolding same_q den comb iv U
x-low q x e =
    by-nn (q ∷ x ∷ []) [] tt ((part 51 ⊕ (rv 1 ⊖ (nat 1 ⊕ rv 0 ⊗ rv 0))) ∷ [])
    (e.1, tt) [] (hyp 0 ⊞ sqr (rv 0)) (rv 1 ⊖ rat (iv_f (2 ^ 256 - 2 ^ 205))) tt

w-low : (r w : ℚ) → 0≤ (r +q mk h_f -q iv (2 ^ 256 - 2 ^ 206)) → Abs (w -q (qn 1 +q r)) (2 ^ 205) → iv w_low ≤q w
unfolding same_q den comb iv U
w-low r w l e =
    sub-≤q (iv w_low) w
    (by-nn (r ∷ w ∷ []) [] tt ((rv 0 ⊕ rat h_f ⊖ rat (iv_f (2 ^ 256 - 2 ^ 206))) ∷ (part 51 ⊕ (rv 1 ⊖ (nat 1 ⊕ rv 0))) ∷ [])
    (l, (e.1, tt)) [] (hyp 0 ⊞ hyp 1 ⊞ num 3 (2 ^ 53 - 1)) (rv 1 ⊖ rat (iv_f w_low)) tt)

inverse : (w : ℚ) → iv w_low ≤q w → Abs (inv w) i_top
unfolding bounds U
inverse w l =
    let d = div_up (2 ^ 256 + 1) w_low in
    let one : Abs (qn 1) (2 ^ 256 + 1) = bound [] [] tt (nat 1) (2 ^ 256 + 1) tt in
    abs-eq (qn 1 *q inv w) (inv w) i_top (*q-comm (qn 1) (inv w) ∙ *q-one (inv w))
    (abs-mono (qn 1 *q inv w) d i_top (leb→le d i_top tt) (abs-div (qn 1) w (2 ^ 256 + 1) w_low (lit< tt) one l))

-- ---- 2 q' + q q'² - q, by what each operation is off. The variables: q, 1 / w, w - (1 + r), r, r² - x, x - (1 + q²), q' - q / w
residual_e : Rx
residual_e =
    let q = rv 0 in let i = rv 1 in let o = rv 2 in let r = rv 3 in let a = rv 4 in let b = rv 5 in let n = rv 6 in
    nat 2 ⊗ n ⊕ nat 2 ⊗ q ⊗ q ⊗ i ⊗ n ⊕ q ⊗ n ⊗ n ⊖ q ⊗ i ⊗ i ⊗ (o ⊗ (o ⊕ nat 2 ⊗ r) ⊕ a ⊕ b)

residual-parts : (p q i w r x : ℚ) → w *q i ≡ qn 1
    → qn 2 *q p +q q *q (p *q p) -q q ≡ ev_r (q ∷ i ∷ (w -q (qn 1 +q r)) ∷ r ∷ (r *q r -q x) ∷ (x -q (qn 1 +q q *q q)) ∷ (p -q q *q i) ∷ []) residual_e
unfolding same_q comb residual_e
residual-parts p q i w r x e =
    let P = rv 0 in let Q = rv 1 in let I = rv 2 in let W = rv 3 in let R = rv 4 in let X = rv 5 in
    let N = P ⊖ Q ⊗ I in let O = W ⊖ (nat 1 ⊕ R) in
    by-eqs (p ∷ q ∷ i ∷ w ∷ r ∷ x ∷ []) ((W ⊗ I, nat 1) ∷ []) (e, tt) (Q ⊗ (I ⊗ W ⊕ nat 1 ⊖ nat 2 ⊗ I) ∷ [])
    (nat 2 ⊗ P ⊕ Q ⊗ (P ⊗ P) ⊖ Q)
    (nat 2 ⊗ N ⊕ nat 2 ⊗ Q ⊗ Q ⊗ I ⊗ N ⊕ Q ⊗ N ⊗ N ⊖ Q ⊗ I ⊗ I ⊗ (O ⊗ (O ⊕ nat 2 ⊗ R) ⊕ (R ⊗ R ⊖ X) ⊕ (X ⊖ (nat 1 ⊕ Q ⊗ Q)))) tt

-- ---- the step, from |q| ≤ Q / U to |q'| ≤ P / U
pub record Half (P : ℕ) (q p : Float) : Type 0 where
  pub fine : T (finite p)
  pub size : Abs (val p) P
  pub near : Abs (qn 2 *q val p +q val q *q (val p *q val p) -q val q) (2 ^ 207)

residualβ : List ℕ
residualβ = q_top ∷ i_top ∷ 2 ^ 205 ∷ rmax ∷ 2 ^ 205 ∷ 2 ^ 205 ∷ 2 ^ 203 ∷ []

residual-test : T (bounds residualβ residual_e (2 ^ 207))
unfolding bounds residualβ residual_e
residual-test = tt

unfoldable pub half_ok : ℕ → ℕ → Bool
unfolding U
half_ok Q P = let M = mul_up Q i_top in (leb Q q_top && leb M (U * huge)) && (leb (rnd M) (2 ^ 203) && leb (M + rnd M) P)

half-tests : (Q P : ℕ) → T (half_ok Q P) → let M = mul_up Q i_top in (Q ≤ q_top) × (M ≤ U * huge) × (rnd M ≤ 2 ^ 203) × (M + rnd M ≤ P)
unfolding half_ok
half-tests Q P t =
    let M = mul_up Q i_top in
    let a = both (leb Q q_top && leb M (U * huge)) (leb (rnd M) (2 ^ 203) && leb (M + rnd M) P) t in
    let b = both (leb Q q_top) (leb M (U * huge)) a.0 in
    let c = both (leb (rnd M) (2 ^ 203)) (leb (M + rnd M) P) a.1 in
    (leb→le Q q_top b.0, leb→le M (U * huge) b.1, leb→le (rnd M) (2 ^ 203) c.0, leb→le (M + rnd M) P c.1)

quotient : (Q P : ℕ) → T (half_ok Q P) → (q w : Float) → T (finite q) → T (finite w) → Abs (val q) Q → iv w_low ≤q val w
    → T (finite (div binary64 q w)) × Abs (val (div binary64 q w) -q val q *q inv (val w)) (2 ^ 203) × Abs (val (div binary64 q w)) P
quotient Q P t q w fq fw hq l =
    let M = mul_up Q i_top in let p = div binary64 q w in let v = val q *q inv (val w) in
    let ts = half-tests Q P t in
    let m = abs-mul (val q) (inv (val w)) Q i_top hq (inverse (val w) l) in
    let d = div-err q w M fq fw (positive (val w) w_low (lit< tt) l) m ts.1 in
    (d.0, abs-mono (val p -q v) (rnd M) (2 ^ 203) ts.2 d.1, abs-mono (val p) (M + rnd M) P ts.3 (own (val p) v M (rnd M) m d.1))

above : (x : ℚ) → 0≤ (x -q iv (2 ^ 256 - 2 ^ 205)) → mk quarter ≤q x
unfolding same_q den comb iv U
above x l =
    sub-≤q (mk quarter) x (by-nn (x ∷ []) [] tt ((rv 0 ⊖ rat (iv_f (2 ^ 256 - 2 ^ 205))) ∷ [])
    (l, tt) [] (hyp 0 ⊞ num (3 * 2 ^ 49 - 1) (2 ^ 51 - 1)) (rv 0 ⊖ rat quarter) tt)

below : (x : ℚ) → Abs x x_top → x <q qn 4
unfolding iv U leq
below x a = not_T (leq (qn 4) x) (λ t. ≤q-trans (qn 4) x (iv x_top) t (sub-≤q x (iv x_top) a.0))

pub half : (Q P : ℕ) → T (half_ok Q P) → (q : Float) → T (finite q) → Abs (val q) Q → Half P q (half_tangent q)
unfolding half_tangent residualβ
half Q P t q fq hq =
    let x = add binary64 (ratio 1 1) (mul binary64 q q) in let r = sqrt binary64 x in
    let w = add binary64 (ratio 1 1) r in let p = div binary64 q w in let i = inv (val w) in
    let top = abs-mono (val q) Q q_top (half-tests Q P t).0 hq in let X = sum_near q fq top in
    let xl = x-low (val q) (val x) X.near in
    let R = root_ok x (add-fits binary64 (ratio 1 1) (mul binary64 q q)) X.fine (above (val x) xl) (below (val x) X.size) in
    let Q² = scaled-root x r X.size R in let W = div-near r R.is_finite Q².r-abs in
    let wl = w-low (val r) (val w) (root-low (val x) (val r) R.not_neg xl R.high) W.near in
    let D = quotient Q P t q w fq W.fine hq wl in
    let v : List ℚ =
    val q ∷ i ∷ (val w -q (qn 1 +q val r)) ∷ val r ∷ (val r *q val r -q val x) ∷ (val x -q (qn 1 +q val q *q val q)) ∷ (val p -q val q *q i) ∷ [] in
    record {
      fine = D.0;
      size = D.2;
      near = abs-eq (ev_r v residual_e) (qn 2 *q val p +q val q *q (val p *q val p) -q val q) (2 ^ 207)
          (sym (residual-parts (val p) (val q) i (val w) (val r) (val x) (inv-ok (val w) (positive (val w) w_low (lit< tt) wl))))
          (bound v residualβ (top, (inverse (val w) wl, (W.near, (Q².r-abs, (Q².r-near, (X.near, (D.1, tt))))))) residual_e (2 ^ 207) residual-test);
    }
