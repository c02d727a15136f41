-- A square root that is correctly rounded, and hypot (a, b) = a √(1 + (b / a)²): its square is near a² + b².
use Rattle.std.specs.Prelude.{◌≡◌, refl, List, [], ◌∷◌, Bool, false, not, ◌&&◌, ℕ, ◌+◌, ◌-◌, ◌*◌, ◌^◌, pos, T, Float}
use Rattle.std.proofs.Common.{sym, ap, subst, leb→le, lit<}
use mathlib.Core.Quot
use Rattle.std.specs.Float.{fin, binary64}
use Rattle.std.specs.Float.Ieee.{add, mul, div}
use Rattle.std.specs.Float.Ieee.Scale.{finite}
use Rattle.std.specs.Float.Ieee.Fits.{and_l, and_r}
use Rattle.exact.specs.Rat.{ℚ, Fr, mk, qn, whole, leq, ◌+q◌, ◌-q◌, ◌*q◌, ◌≤q◌, inv, inv-ok, cancel-nn, ≤q-sub, ≤q-total}
use Rattle.exact.specs.Abs.{U, iv, iv_f, 0≤, Abs, abs-eq, abs-mono}
use Rattle.exact.specs.RingQ.{Rx, rv, rat, ◌⊕◌, ◌⊖◌, ◌⊗◌, same_q}
use Rattle.exact.specs.Cert.{nat, Eqs, comb, by-eqs, by-nn, Nns, hyp, sqr, num, ◌⊞◌, ◌⊠◌, den, bounds, bound}
use Rattle.exact.specs.Val.{val, rnd, huge, div-err}
use Rattle.exact.specs.Check.{Fx, fv, fc, ◌+f◌, ◌*f◌, mag, err, ok, chk, sound, own}
use Rattle.exact.specs.Given.{given}
use Rattle.exact.specs.Sign.{mul-nn}

-- half a unit in the last place of a number in [1, 2)
abbrev pub h_f : Fr
h_f = record { p = 1; n = 0; d = 9007199254740992; dp = lit< tt }

-- what correct rounding says of r = √x, for x in [1, 4)
pub record Root (x r : Float) : Type 0 where
  pub is_finite : T (finite r)
  pub not_neg : 0≤ (val r)
  pub low : (val r -q mk h_f) *q (val r -q mk h_f) ≤q val x
  pub high : val x ≤q (val r +q mk h_f) *q (val r +q mk h_f)

-- for x ≤ 513 / 256: r ≤ 387 / 256, and r² is within 2 ^ -51 of x
abbrev pub x_top : Fr
x_top = record { p = 513; n = 0; d = 256; dp = lit< tt }

abbrev pub top_r : Fr
top_r = record { p = 387; n = 0; d = 256; dp = lit< tt }

abbrev pub rmax : ℕ
rmax = 387 * 2 ^ 248

root-small : (x r : ℚ) → 0≤ (mk x_top -q x) → (r -q mk h_f) *q (r -q mk h_f) ≤q x → 0≤ (mk top_r -q r)
unfolding same_q den comb
root-small x r hx lo =
    by-nn (x ∷ r ∷ []) [] tt
    ((rat x_top ⊖ rv 0) ∷ (rv 0 ⊖ (rv 1 ⊖ rat h_f) ⊗ (rv 1 ⊖ rat h_f)) ∷ [])
    (hx, (≤q-sub ((r -q mk h_f) *q (r -q mk h_f)) x lo, tt)) []
    (num 4503599627370496 18014398509481982
    ⊠ (hyp 1 ⊞ sqr (rv 1 ⊖ nat 2) ⊞ hyp 0 ⊞ num 3486039150627603621411937058817 81129638414606681695789005144063)) (rat top_r ⊖ rv 1) tt

root-abs : (r : ℚ) → 0≤ r → 0≤ (mk top_r -q r) → Abs r rmax
unfolding same_q den comb iv U
root-abs r p q = (
  by-nn (r ∷ []) [] tt (rv 0 ∷ (rat top_r ⊖ rv 0) ∷ []) (p, (q, tt)) [] (hyp 1) (rat (iv_f rmax) ⊖ rv 0) tt,
  by-nn (r ∷ []) [] tt (rv 0 ∷ (rat top_r ⊖ rv 0) ∷ []) (p, (q, tt)) [] (hyp 0 ⊞ num 387 255) (rat (iv_f rmax) ⊕ rv 0) tt,
)

root-sq : (x r : ℚ) → 0≤ (mk top_r -q r) → (r -q mk h_f) *q (r -q mk h_f) ≤q x → x ≤q (r +q mk h_f) *q (r +q mk h_f) → Abs (r *q r -q x) (2 ^ (256 - 51))
unfolding same_q den comb iv U
root-sq x r s lo hi =
    let H : List Rx = (rat top_r ⊖ rv 1) ∷ (rv 0 ⊖ (rv 1 ⊖ rat h_f) ⊗ (rv 1 ⊖ rat h_f)) ∷ ((rv 1 ⊕ rat h_f) ⊗ (rv 1 ⊕ rat h_f) ⊖ rv 0) ∷ [] in
    let P : Nns (x ∷ r ∷ []) H = (s, (≤q-sub ((r -q mk h_f) *q (r -q mk h_f)) x lo, (≤q-sub x ((r +q mk h_f) *q (r +q mk h_f)) hi, tt))) in (
      by-nn (x ∷ r ∷ []) [] tt H P [] (hyp 1 ⊞ num 1 4503599627370495 ⊠ hyp 0 ⊞ num 8796093022208001 81129638414606681695789005144063)
          (rat (iv_f (2 ^ (256 - 51))) ⊖ (rv 1 ⊗ rv 1 ⊖ rv 0)) tt,
      by-nn (x ∷ r ∷ []) [] tt H P [] (hyp 2 ⊞ num 1 4503599627370495 ⊠ hyp 0 ⊞ num 8796093022207999 81129638414606681695789005144063)
          (rat (iv_f (2 ^ (256 - 51))) ⊕ (rv 1 ⊗ rv 1 ⊖ rv 0)) tt,
    )

-- ---- b / a for 0 ≤ b ≤ a and 0 < a, at any magnitude
ratio : (a b : ℚ) → T (not (leq a (qn 0))) → 0≤ b → b ≤q a → Abs (b *q inv a) (2 ^ 256)
unfolding same_q den comb iv U
ratio a b p n l =
    let E : List (Rx × Rx) = (rv 0 ⊗ rv 2, nat 1) ∷ [] in
    let ρ : List ℚ = a ∷ b ∷ inv a ∷ [] in
    let e : Eqs ρ E = (inv-ok a p, tt) in
    let H : List Rx = rv 1 ∷ (rv 0 ⊖ rv 1) ∷ [] in
    let h : Nns ρ H = (n, (≤q-sub b a l, tt)) in (
      cancel-nn a (iv (2 ^ 256) -q b *q inv a) p (by-nn ρ E e H h ((nat 0 ⊖ rv 1) ∷ []) (hyp 1) (rv 0 ⊗ (rat (iv_f (2 ^ 256)) ⊖ rv 1 ⊗ rv 2)) tt),
      cancel-nn a (iv (2 ^ 256) +q b *q inv a) p (by-nn ρ E e H h (rv 1 ∷ []) (hyp 1 ⊞ hyp 0 ⊞ hyp 0) (rv 0 ⊗ (rat (iv_f (2 ^ 256)) ⊕ rv 1 ⊗ rv 2)) tt),
    )

one_f : Fx
one_f = fc (fin false 1 (pos 0)) (whole 1 0)

abbrev pub one : Float
one = fin false 1 (pos 0)

-- t is b / a within 2 ^ -53 and a bit; 1 + t t, and a r
sum_e : Fx
unfolding one_f
sum_e = one_f +f fv 0 *f fv 0

prod_e : Fx
prod_e = fv 0 *f fv 1

square : (a b t x r h : ℚ) → a *q t ≡ b
    → h *q h -q (a *q a +q b *q b) ≡ (h -q a *q r) *q (h +q a *q r) +q a *q a *q (r *q r -q x) +q a *q a *q (x -q (qn 1 +q t *q t))
unfolding same_q comb
square a b t x r h e =
    let A = rv 0 in let B = rv 1 in let S = rv 2 in let X = rv 3 in let R = rv 4 in let H = rv 5 in
    by-eqs (a ∷ b ∷ t ∷ x ∷ r ∷ h ∷ []) ((A ⊗ S, B) ∷ []) (e, tt) ((A ⊗ S ⊕ B) ∷ [])
    (H ⊗ H ⊖ (A ⊗ A ⊕ B ⊗ B)) ((H ⊖ A ⊗ R) ⊗ (H ⊕ A ⊗ R) ⊕ A ⊗ A ⊗ (R ⊗ R ⊖ X) ⊕ A ⊗ A ⊗ (X ⊖ (nat 1 ⊕ S ⊗ S))) tt

back-again : (a b : ℚ) → T (not (leq a (qn 0))) → a *q (b *q inv a) ≡ b
unfolding same_q comb
back-again a b p = by-eqs (a ∷ b ∷ inv a ∷ []) ((rv 0 ⊗ rv 2, nat 1) ∷ []) (inv-ok a p, tt) (rv 1 ∷ []) (rv 0 ⊗ (rv 1 ⊗ rv 2)) (rv 1) tt

x-top : (x : ℚ) → 0≤ (iv (513 * 2 ^ 248) -q x) → 0≤ (mk x_top -q x)
unfolding iv U
x-top x h = subst 0≤ (ap (λ z. z -q x) (Quot.sound refl)) h

-- ---- x = 1 + t t for t = b / a: what holds of it at any magnitude of a
sumβ : List (ℕ × ℕ)
sumβ = (2 ^ 256, rnd (2 ^ 256)) ∷ []

abbrev pub sum_err : ℕ
sum_err = 6 * 2 ^ (256 - 53)

pub record Scaled (a b : Float) : Type 0 where
  pub quotient : ℚ
  pub back : val a *q quotient ≡ val b
  pub x-finite : T (finite (add binary64 one (mul binary64 (div binary64 b a) (div binary64 b a))))
  pub x-top : Abs (val (add binary64 one (mul binary64 (div binary64 b a) (div binary64 b a)))) (513 * 2 ^ 248)
  pub x-near : Abs (val (add binary64 one (mul binary64 (div binary64 b a) (div binary64 b a))) -q (qn 1 +q quotient *q quotient)) sum_err

pub scaled : (a b : Float) → T (finite a) → T (finite b) → T (not (leq (val a) (qn 0))) → 0≤ (val b) → val b ≤q val a → Scaled a b
unfolding sum_e sumβ chk U
scaled a b fa fb pa nb l =
    let t = div binary64 b a in let x = add binary64 one (mul binary64 t t) in
    let q = val b *q inv (val a) in let Q = ratio (val a) (val b) pa nb l in
    let D = div-err b a (2 ^ 256) fb fa pa Q (leb→le (2 ^ 256) (U * huge) tt) in
    let S = sound (t ∷ []) (q ∷ []) sumβ ((D.0, Q, D.1), tt) sum_e (tt, (tt, tt)) tt in
    record {
      quotient = q;
      back = back-again (val a) (val b) pa;
      x-finite = S.0;
      x-top = abs-mono (val x) (mag (chk sumβ sum_e) + err (chk sumβ sum_e)) (513 * 2 ^ 248)
          (leb→le (mag (chk sumβ sum_e) + err (chk sumβ sum_e)) (513 * 2 ^ 248) tt)
          (own (val x) (qn 1 +q q *q q) (mag (chk sumβ sum_e)) (err (chk sumβ sum_e)) S.1 S.2);
      x-near = abs-mono (val x -q (qn 1 +q q *q q)) (err (chk sumβ sum_e)) sum_err (leb→le (err (chk sumβ sum_e)) sum_err tt) S.2;
    }

-- and of its root r: r is at most 387 / 256, and r² within 2 ^ -51 of x
pub record SquaresTo (x r : ℚ) : Type 0 where
  pub r-high : 0≤ (mk top_r -q r)
  pub r-abs : Abs r rmax
  pub r-near : Abs (r *q r -q x) (2 ^ (256 - 51))

pub scaled-root : (x r : Float) → Abs (val x) (513 * 2 ^ 248) → Root x r → SquaresTo (val x) (val r)
scaled-root x r xs R =
    let rs = root-small (val x) (val r) (x-top (val x) xs.0) R.low in
    record { r-high = rs; r-abs = root-abs (val r) R.not_neg rs; r-near = root-sq (val x) (val r) rs R.low R.high }

-- ---- the bounds, for a ≤ A / U: the test says that |h² - (a² + b²)| ≤ N / U
prodβ : ℕ → List (ℕ × ℕ)
prodβ A = (A, 0) ∷ (rmax, 0) ∷ []

h_top : ℕ → ℕ
unfolding prodβ chk prod_e
h_top A = mag (chk (prodβ A) prod_e) + err (chk (prodβ A) prod_e)

off_e : Rx
off_e = rv 0 ⊗ (rv 1 ⊕ rv 2 ⊗ rv 3) ⊕ rv 2 ⊗ rv 2 ⊗ rv 4 ⊕ rv 2 ⊗ rv 2 ⊗ rv 5

offβ : ℕ → List ℕ
unfolding prodβ chk prod_e h_top
offβ A = err (chk (prodβ A) prod_e) ∷ h_top A ∷ A ∷ rmax ∷ 2 ^ (256 - 51) ∷ sum_err ∷ []

unfoldable pub hyp-fits : ℕ → ℕ → Bool
unfolding bounds off_e offβ
hyp-fits A N = bounds (offβ A) off_e N && ok (chk (prodβ A) prod_e)

pub hypot-ok : (A N : ℕ) → T (hyp-fits A N) → (a b r : Float) → T (finite a) → T (finite b)
    → T (not (leq (val a) (qn 0))) → 0≤ (val b) → val b ≤q val a → Abs (val a) A
    → Root (add binary64 one (mul binary64 (div binary64 b a) (div binary64 b a))) r
    → T (finite (mul binary64 a r)) × Abs (val (mul binary64 a r) *q val (mul binary64 a r) -q (val a *q val a +q val b *q val b)) N
unfolding hyp-fits prod_e off_e offβ h_top prodβ chk
hypot-ok A N T₀ a b r fa fb pa nb l ha R =
    let x = add binary64 one (mul binary64 (div binary64 b a) (div binary64 b a)) in
    let h = mul binary64 a r in let S = scaled a b fa fb pa nb l in let q = S.quotient in
    let X = scaled-root x r S.x-top R in
    let o = and_r (bounds (offβ A) off_e N) (ok (chk (prodβ A) prod_e)) T₀ in
    let P = sound (a ∷ r ∷ []) (val a ∷ val r ∷ []) (prodβ A) (given a A (fa, ha), (given r rmax (R.is_finite, X.r-abs), tt)) prod_e (tt, tt) o in
    let hs = own (val h) (val a *q val r) (mag (chk (prodβ A) prod_e)) (err (chk (prodβ A) prod_e)) P.1 P.2 in
    let e = square (val a) (val b) q (val x) (val r) (val h) S.back in (
      P.0,
      abs-eq ((val h -q val a *q val r) *q (val h +q val a *q val r) +q val a *q val a *q (val r *q val r -q val x)
          +q val a *q val a *q (val x -q (qn 1 +q q *q q))) (val h *q val h -q (val a *q val a +q val b *q val b)) N (sym e)
          (bound ((val h -q val a *q val r) ∷ val h ∷ val a ∷ val r ∷ (val r *q val r -q val x) ∷ (val x -q (qn 1 +q q *q q)) ∷ []) (offβ A)
          (P.2, (hs, (ha, (X.r-abs, (X.r-near, (S.x-near, tt)))))) off_e N (and_l (bounds (offβ A) off_e N) (ok (chk (prodβ A) prod_e)) T₀)),
    )

-- ---- the contract of hypot (p, q), for p and q at most A in size
pub record Hyp (N : ℕ) (p q h : Float) : Type 0 where
  pub fine : T (finite h)
  pub not_neg : 0≤ (val h)
  pub near : Abs (val h *q val h -q (val p *q val p +q val q *q val q)) N

-- by p = ±a, q = ±b, or the other way round: only their squares count
pub hyp-intro : (A N : ℕ) → T (hyp-fits A N) → (a b r p q : Float) → T (finite a)
    → T (finite b) → T (not (leq (val a) (qn 0))) → 0≤ (val b) → val b ≤q val a → Abs (val a) A
    → Root (add binary64 one (mul binary64 (div binary64 b a) (div binary64 b a))) r
    → val a *q val a +q val b *q val b ≡ val p *q val p +q val q *q val q → Hyp N p q (mul binary64 a r)
hyp-intro A N t a b r p q fa fb pa nb l ha R e =
    let k = hypot-ok A N t a b r fa fb pa nb l ha R in
    record {
      fine = k.0;
      not_neg = mul-nn a r fa R.is_finite (≤q-total (val a) (qn 0) pa) R.not_neg;
      near = subst (λ z. Abs (val (mul binary64 a r) *q val (mul binary64 a r) -q z) N) e k.1;
    }
