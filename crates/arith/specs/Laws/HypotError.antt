-- The error of `hypot_of`: its square is near x² + y². `hypot-near`: within 2 ^ -49 m² + 2 ^ -1073 m, m the larger
-- magnitude, for all finite x and y whose result is finite, at any ratio, underflow included.
-- `hypot-normal`: so within 2 ^ -48 m² where m is at least 2 ^ -1022. `hypot-within`: for arguments of at
-- most A / U an absolute bound, and the result is finite (`Hyp` of the crate `exact`).
use Rattle.std.specs.Prelude.{◌≡◌, refl, Bool, true, false, not, cond, ◌&&◌, ℕ, zero, suc, ◌+◌, ◌-◌, ◌*◌, ◌^◌, ◌≤◌, ◌<◌, T, ℤ, pos, Float}
use Rattle.std.proofs.Common.{sym, ap, ap₂, ◌∙◌, subst, subst₂, mul-pos, mul-le-mul_right, zero-lt-suc, zero-mul, arith, lit<, lit≤, pow_pos}
use mathlib.Core.List.{List, [], ◌∷◌}
use mathlib.Core.Quot.{sound}
use Rattle.std.proofs.Math.Nat.{not-le_of_lt}
use Rattle.std.proofs.Math.Dec.{nleb→lt}
use Rattle.std.specs.Float.{nan, inf, fin, binary64}
use Rattle.std.specs.Float.Ieee.{fits, round, up, down, lt, add, mul, div}
use Rattle.std.proofs.Math.Arith.{lt→nleb}
use Rattle.std.specs.Float.Ieee.Fits.{add-fits, up_pos, down_pos}
use Rattle.std.specs.Float.Ieee.Bits.{is_true}
use Rattle.std.specs.Float.Ieee.Exact.{HasValue}
use Rattle.std.specs.Float.Ieee.Scale.{finite}
use Rattle.exact.specs.Rat.{ℚ, mk, qn, whole, mul_f, leq, ◌+q◌, ◌-q◌, ◌*q◌, ◌≤q◌, ◌<q◌, ≤-mk, mk-≤, *q-mk, ≤q-sub, sub-≤q, ≤q-trans, ≤q-total}
use Rattle.exact.specs.Rat.{≤q-antisymm, ≤q-refl, +q-comm}
use Rattle.exact.specs.Abs.{U, iv, iv_f, iv-nn, 0≤, Abs, T_not}
use Rattle.exact.specs.Ring.{var, con, ◌:+◌, ◌:-◌, ◌:*◌, same, ring}
use Rattle.exact.specs.RingQ.{Rx, rv, rat, ◌⊕◌, ◌⊖◌, ◌⊗◌, ev_r, same_q}
use Rattle.exact.specs.Cert.{nat, Nns, Ct, comb, den, by-nn, hyp, num, sqr, ◌⊞◌, ◌⊠◌}
use Rattle.exact.specs.Val.{val, sg, sg_f, has→val}
use Rattle.exact.specs.Sign.{sg-nn, mul-nn}
use Rattle.exact.specs.Relative.{Near, near-mono, tiny, part, least, unsigned, mul-near}
use Rattle.exact.specs.Hypot.{Root, top_r, sum_err, one, Scaled, scaled, scaled-root, Hyp, hyp-fits, hyp-intro}
use Rattle.arith.specs.Real.{abs_of, max_of}
use Rattle.arith.specs.RealLaws.{zero_left, not_zero_left}
use Rattle.arith.specs.FlowLaws.{cond_yes, cond_no}
use Rattle.arith.specs.Root.{sqrt}
use Rattle.arith.specs.Hypot.{scaled_root, hypot_of}
use Rattle.arith.specs.Laws.Magnitude.{finite-same, abs-unsigned, abs-finite, abs-fits, abs-nn, abs-abs, abs-square, lt_yes, lt_no}
use Rattle.arith.specs.Laws.RootUnits.{root-units}
use Rattle.arith.specs.Laws.RootNearest.{positive_of}
use Rattle.arith.specs.Laws.RootError.{quarter, above-quarter, root_ok}

-- ---- in fractions: a q = b; x near 1 + q²; r² near x; h near a r. y is half of the smallest double
-- the constants of the two certificates are exact: c1 = 2 ^ -49 - (2 w + w²) (387/256)² - 2 ^ -51 - 6 w and c2 = 4 - (2 + 2 w) 387/256 - 1/2, for w = 2 ^ -53
rest : Ct
rest =
    let A = hyp 0 ⊞ num 2 0 ⊠ hyp 1 in
    num 18014398509481985 81129638414606681695789005144063 ⊠ (A ⊠ A) ⊠ (hyp 3 ⊠ (hyp 3 ⊞ num 2 0 ⊠ hyp 2))
    ⊞ num 9007199254740993 4503599627370495 ⊠ (A ⊠ hyp 1 ⊠ hyp 3)
    ⊞ num 1 1 ⊠ (hyp 1 ⊠ hyp 0)
    ⊞ num 843776411785626498807 5316911983139663491615228241121378303 ⊠ (A ⊠ A)
    ⊞ num 549439154539200125 1152921504606846975 ⊠ (hyp 1 ⊠ A)

module _ (a b q x r h y : ℚ) (e : a *q q ≡ b) (a-low : 0≤ (a -q qn 2 *q y)) (y-nn : 0≤ y)
    (r-nn : 0≤ r) (r_top : 0≤ (mk top_r -q r)) (r-near : Abs (r *q r -q x) (2 ^ (256 - 51)))
    (x-near : Abs (x -q (qn 1 +q q *q q)) sum_err) (h-nn : 0≤ h) (h-near : Near (a *q r *q mk part +q y) h (a *q r)) where
  abbrev ρ : List ℚ
  ρ = a ∷ b ∷ q ∷ x ∷ r ∷ h ∷ y ∷ []

  abbrev E : List (Rx × Rx)
  E = (rv 0 ⊗ rv 2, rv 1) ∷ []

  abbrev H : List Rx
  H =
      let off = rv 0 ⊗ rv 4 ⊗ rat part ⊕ rv 6 in
      (rv 0 ⊖ nat 2 ⊗ rv 6) ∷ rv 6 ∷ rv 4 ∷ (rat top_r ⊖ rv 4) ∷ (rat (iv_f (2 ^ (256 - 51))) ⊖ (rv 4 ⊗ rv 4 ⊖ rv 3))
      ∷ (rat (iv_f (2 ^ (256 - 51))) ⊕ (rv 4 ⊗ rv 4 ⊖ rv 3)) ∷ (rat (iv_f sum_err) ⊖ (rv 3 ⊖ (nat 1 ⊕ rv 2 ⊗ rv 2)))
      ∷ (rat (iv_f sum_err) ⊕ (rv 3 ⊖ (nat 1 ⊕ rv 2 ⊗ rv 2))) ∷ rv 5 ∷ (rv 0 ⊗ rv 4 ⊕ off ⊖ rv 5)
      ∷ (rv 5 ⊕ off ⊖ rv 0 ⊗ rv 4) ∷ []

  abbrev err : Rx
  err = rat (tiny 49) ⊗ (rv 0 ⊗ rv 0) ⊕ nat 4 ⊗ rv 6 ⊗ rv 0

  known : Nns ρ H
  unfolding iv
  known = (
    a-low,
    (
      y-nn,
      (
        r-nn,
        (
          r_top,
          (
            r-near.0,
            (
              r-near.1,
              (
                x-near.0,
                (
                  x-near.1,
                  (
                    h-nn,
                    (
                      ≤q-sub h (a *q r +q (a *q r *q mk part +q y)) h-near.0,
                      (≤q-sub (a *q r) (h +q (a *q r *q mk part +q y)) h-near.1, tt),
                    ),
                  ),
                ),
              ),
            ),
          ),
        ),
      ),
    ),
  )

  core-high : h *q h ≤q a *q a +q b *q b +q ev_r ρ err
  unfolding same_q den comb rest U
  core-high =
      let A = hyp 0 ⊞ num 2 0 ⊠ hyp 1 in
      sub-≤q (h *q h) (a *q a +q b *q b +q ev_r ρ err)
      (by-nn ρ E (e, tt) H known ((nat 0 ⊖ (rv 0 ⊗ rv 2 ⊕ rv 1)) ∷ [])
      (hyp 9 ⊠ (hyp 8 ⊞ A ⊠ hyp 2) ⊞ (A ⊠ hyp 2 ⊠ num 1 9007199254740991 ⊞ hyp 1) ⊠ hyp 9 ⊞ A ⊠ A ⊠ hyp 4 ⊞ A ⊠ A ⊠ hyp 6 ⊞ rest)
      (rv 0 ⊗ rv 0 ⊕ rv 1 ⊗ rv 1 ⊕ err ⊖ rv 5 ⊗ rv 5) tt)

  core-low : a *q a +q b *q b ≤q h *q h +q ev_r ρ err
  unfolding same_q den comb rest U
  core-low =
      let A = hyp 0 ⊞ num 2 0 ⊠ hyp 1 in
      sub-≤q (a *q a +q b *q b) (h *q h +q ev_r ρ err)
      (by-nn ρ E (e, tt) H known ((rv 0 ⊗ rv 2 ⊕ rv 1) ∷ [])
      (hyp 10 ⊠ (hyp 8 ⊞ A ⊠ hyp 2) ⊞ (A ⊠ hyp 2 ⊠ num 1 9007199254740991 ⊞ hyp 1) ⊠ hyp 9 ⊞ A ⊠ A ⊠ hyp 5 ⊞ A ⊠ A ⊠ hyp 7 ⊞ rest)
      (rv 5 ⊗ rv 5 ⊕ err ⊖ (rv 0 ⊗ rv 0 ⊕ rv 1 ⊗ rv 1)) tt)

-- ---- the smallest double above 0 is 2 ^ -1074
two-least : (L a : ℕ) (P : 0 < L) (P2 : 0 < L * 2) → 0 < a → qn 2 *q sg false 1 (L * 2) P2 ≤q sg false a L P
two-least L a P P2 h =
    subst (λ z. z ≤q sg false a L P) (sym (*q-mk (whole 2 0) (sg_f false 1 (L * 2) P2)))
    (≤-mk (mul_f (whole 2 0) (sg_f false 1 (L * 2) P2)) (sg_f false a L P) (let z = mul-le-mul_right L h in omega arith))

above-frac : (a c : ℕ) (C : 0 < c) → qn 0 <q sg false a c C → 0 < a
unfolding leq
above-frac a c C t = let h = nleb→lt (a * 1 + 0 * c) (0 * c + 0 * 1) t in omega arith

has→unsigned : (x : Float) (a c : ℕ) → HasValue x false a c → T (unsigned x)
has→unsigned nan a c h = absurd h
has→unsigned (inf s) a c h = absurd h
has→unsigned (fin s m e) a c h = subst (λ b. T (not b)) (sym h.0) tt

unsigned-finite : (x : Float) → T (unsigned x) → T (finite x)
unsigned-finite nan p = p
unsigned-finite (inf s) p = p
unsigned-finite (fin s m e) p = tt

-- ---- a above 0, b from 0 to a
abbrev radicand : Float → Float → Float
radicand a b = add binary64 one (mul binary64 (div binary64 b a) (div binary64 b a))

module _ (a b : Float) (fa : T (fits binary64 a)) (ua : T (unsigned a)) (fb : T (finite b)) (pa : qn 0 <q val a) (nb : 0≤ (val b)) (l : val b ≤q val a) where
  S : Scaled a b
  S = scaled a b (unsigned-finite a ua) fb pa nb l

  x-low : mk quarter ≤q val (radicand a b)
  unfolding same_q den comb iv U
  x-low =
      let q = S.quotient in
      sub-≤q (mk quarter) (val (radicand a b))
      (by-nn (val (radicand a b) ∷ q ∷ []) [] tt ((rat (iv_f sum_err) ⊕ (rv 0 ⊖ (nat 1 ⊕ rv 1 ⊗ rv 1))) ∷ []) (S.x-near.1, tt) []
      (hyp 0 ⊞ sqr (rv 1) ⊞ num 6755399441055738 9007199254740991) (rv 0 ⊖ rat quarter) tt)

  x-high : val (radicand a b) <q qn 4
  unfolding iv U
  x-high =
      T_not (leq (qn 4) (val (radicand a b))) (λ t. no (mk-≤ (whole 4 0) (iv_f (513 * 2 ^ 248))
      (≤q-trans (qn 4) (val (radicand a b)) (iv (513 * 2 ^ 248)) t (sub-≤q (val (radicand a b)) (iv (513 * 2 ^ 248)) S.x-top.0))))
    where
      no : 4 * 2 ^ 256 + 0 * 1 ≤ 513 * 2 ^ 248 * 1 + 0 * 2 ^ 256 → ⊥
      no h = not-le_of_lt (lit< tt) h

  pub hypot-root : Root (radicand a b) (sqrt binary64 (radicand a b))
  hypot-root = root_ok (radicand a b) (add-fits binary64 one (mul binary64 (div binary64 b a) (div binary64 b a))) S.x-finite x-low x-high

  r-unsigned : T (unsigned (sqrt binary64 (radicand a b)))
  r-unsigned =
      let R = root-units (radicand a b) (add-fits binary64 one (mul binary64 (div binary64 b a) (div binary64 b a)))
      (positive_of (radicand a b) S.x-finite (above-quarter (val (radicand a b)) x-low)) in
      has→unsigned (sqrt binary64 (radicand a b)) (R.q * 2 ^ R.k) (2 ^ 1074) R.root

  a-least : qn 2 *q least ≤q val a
  a-least =
      let R = root-units a fa (positive_of a (unsigned-finite a ua) pa) in
      let v = (has→val a false R.A (2 ^ 1074) (pow_pos 1074) R.value).1 in
      subst (λ z. qn 2 *q least ≤q z) (sym v) (two-least (2 ^ 1074) R.A (pow_pos 1074) (mul-pos (pow_pos 1074) (zero-lt-suc 1))
      (above-frac R.A (2 ^ 1074) (pow_pos 1074) (subst (λ z. qn 0 <q z) v pa)))

  pub scaled-near : T (finite (mul binary64 a (sqrt binary64 (radicand a b))))
      → Near (mk (tiny 49) *q (val a *q val a) +q qn 4 *q least *q val a)
      (val (mul binary64 a (sqrt binary64 (radicand a b))) *q val (mul binary64 a (sqrt binary64 (radicand a b)))) (val a *q val a +q val b *q val b)
  scaled-near t =
      let r = sqrt binary64 (radicand a b) in
      let Q = scaled-root (radicand a b) r S.x-top hypot-root in
      let n = mul-near a r ua r-unsigned t in
      let h-nn = mul-nn a r (unsigned-finite a ua) hypot-root.is_finite (≤q-total (val a) (qn 0) pa) hypot-root.not_neg in
      let a-low = ≤q-sub (qn 2 *q least) (val a) a-least in (
        core-high (val a) (val b) S.quotient (val (radicand a b)) (val r) (val (mul binary64 a r)) least
            S.back a-low least-nn hypot-root.not_neg Q.r-high Q.r-near S.x-near h-nn n,
        core-low (val a) (val b) S.quotient (val (radicand a b)) (val r) (val (mul binary64 a r)) least
            S.back a-low least-nn hypot-root.not_neg Q.r-high Q.r-near S.x-near h-nn n,
      )
    where
      least-nn : 0≤ least
      least-nn = sg-nn 1 (2 ^ 1074 * 2) (mul-pos (pow_pos 1074) (zero-lt-suc 1))

-- ---- `scaled_root`
-- 2 ^ -49 m² + 2 ^ -1073 m
unfoldable pub hypot_err : ℚ → ℚ
hypot_err m = mk (tiny 49) *q (m *q m) +q mk (tiny 1073) *q m

four-least : qn 4 *q least ≡ mk (tiny 1073)
unfolding ◌*q◌
four-least = sound refl

scaled-zero : (e : ℤ) (b : Float) → scaled_root (fin false 0 e) b ≡ fin false 0 (pos 0)
unfolding scaled_root round
scaled-zero e b = sym (cond_yes _ _ (zero_left e false))

scaled-else : (m : ℕ) (e : ℤ) (b : Float)
    → scaled_root (fin false (suc m) e) b ≡ mul binary64 (fin false (suc m) e) (sqrt binary64 (radicand (fin false (suc m) e) b))
unfolding scaled_root round
scaled-else m e b = sym (cond_no _ _ (not_zero_left m e false))

zero_val : (e : ℤ) → val (fin false 0 e) ≡ qn 0
zero_val e = zero-frac (0 * up e) (down e) (down_pos e) (zero-mul (up e))
  where
    zero-frac : (a c : ℕ) (C : 0 < c) → a ≡ 0 → sg false a c C ≡ qn 0
    zero-frac a c C h = sound (omega arith)

above-val : (m : ℕ) (e : ℤ) → qn 0 <q val (fin false (suc m) e)
unfolding leq
above-val m e = lt→nleb (suc m * up e * 1 + 0 * down e) (0 * down e + 0 * 1) (let h = mul-pos (zero-lt-suc m) (up_pos e) in omega arith)

all-zero : (a b h : ℚ) → a ≡ qn 0 → b ≡ qn 0 → h ≡ qn 0 → Near (hypot_err a) (h *q h) (a *q a +q b *q b)
unfolding hypot_err ◌*q◌ ◌+q◌
all-zero a b h p q r =
    subst (λ a. Near (hypot_err a) (h *q h) (a *q a +q b *q b)) (sym p) (subst (λ b. Near (hypot_err (qn 0)) (h *q h) (qn 0 *q qn 0 +q b *q b))
    (sym q) (subst (λ h. Near (hypot_err (qn 0)) (h *q h) (qn 0 *q qn 0 +q qn 0 *q qn 0)) (sym r) (≤-mk _ _ (lit≤ tt), ≤-mk _ _ (lit≤ tt))))

scaled-law : (a b : Float) → T (fits binary64 a) → T (unsigned a) → T (finite b) → 0≤ (val b) → val b ≤q val a → T (finite (scaled_root a b))
    → Near (hypot_err (val a)) (val (scaled_root a b) *q val (scaled_root a b)) (val a *q val a +q val b *q val b)
unfolding hypot_err
scaled-law nan b f u p n l t = absurd u
scaled-law (inf s) b f u p n l t = absurd u
scaled-law (fin true m e) b f u p n l t = absurd u
scaled-law (fin false zero e) b f u p n l t =
    let z = zero_val e in
    all-zero (val (fin false 0 e)) (val b) (val (scaled_root (fin false 0 e) b)) z
    (≤q-antisymm (val b) (qn 0) (subst (λ v. val b ≤q v) z l) n) (ap val (scaled-zero e b) ∙ zero_val (pos 0))
scaled-law (fin false (suc m) e) b f u p n l t =
    let a = fin false (suc m) e in let is = scaled-else m e b in
    let k = scaled-near a b f u p (above-val m e) n l (subst (λ z. T (finite z)) is t) in
    subst₂ (λ c h. Near (mk (tiny 49) *q (val a *q val a) +q c *q val a) (val h *q val h) (val a *q val a +q val b *q val b)) four-least (sym is) k

err-normal : (m : ℚ) → mk (tiny 1022) ≤q m → hypot_err m ≤q mk (tiny 48) *q (m *q m)
unfolding same_q den comb hypot_err
err-normal m l =
    let H : List Rx = (rv 0 ⊖ rat (tiny 1022)) ∷ [] in
    sub-≤q (hypot_err m) (mk (tiny 48) *q (m *q m))
    (by-nn (m ∷ []) [] tt H (≤q-sub (mk (tiny 1022)) m l, tt) []
    (let M = hyp 0 ⊞ num 1 (2 ^ 1022 - 1) in num 1 (2 ^ 49 - 1) ⊠ (M ⊠ hyp 0) ⊞ num 3 (2 ^ 1073 - 1) ⊠ M)
    (rat (tiny 48) ⊗ (rv 0 ⊗ rv 0) ⊖ (rat (tiny 49) ⊗ (rv 0 ⊗ rv 0) ⊕ rat (tiny 1073) ⊗ rv 0)) tt)

-- the same for `Hyp`: an absolute bound
zero-within : (N : ℕ) (p q h : Float) → T (finite h) → val h ≡ qn 0 → val p *q val p +q val q *q val q ≡ qn 0 → Hyp N p q h
unfolding same
zero-within N p q h f z s = record {
  fine = f;
  not_neg = subst 0≤ (sym z) (≤q-refl (qn 0));
  near = subst₂ (λ h s. Abs (h *q h -q s) N) (sym z) (sym s) (
    subst 0≤ (ring (iv N ∷ []) (var 0) (var 0 :- (con 0 :* con 0 :- con 0)) tt) (iv-nn N),
    subst 0≤ (ring (iv N ∷ []) (var 0) (var 0 :+ (con 0 :* con 0 :- con 0)) tt) (iv-nn N),
  );
}

both_zero : (a b : ℚ) → a ≡ qn 0 → b ≡ qn 0 → a *q a +q b *q b ≡ qn 0
unfolding ◌*q◌ ◌+q◌
both_zero a b p q = subst₂ (λ a b. a *q a +q b *q b ≡ qn 0) (sym p) (sym q) (sound refl)

scaled-within : (A N : ℕ) → T (hyp-fits A N) → (a b p q : Float) → T (fits binary64 a)
    → T (unsigned a) → T (finite b) → 0≤ (val b) → val b ≤q val a → Abs (val a) A
    → val a *q val a +q val b *q val b ≡ val p *q val p +q val q *q val q → Hyp N p q (scaled_root a b)
scaled-within A N t nan b p q f u g n l h e = absurd u
scaled-within A N t (inf s) b p q f u g n l h e = absurd u
scaled-within A N t (fin true m d) b p q f u g n l h e = absurd u
scaled-within A N t (fin false zero d) b p q f u g n l h e =
    let z = zero_val d in
    subst (Hyp N p q) (sym (scaled-zero d b)) (zero-within N p q (fin false 0 (pos 0)) tt (zero_val (pos 0))
    (sym e ∙ both_zero (val (fin false 0 d)) (val b) z (≤q-antisymm (val b) (qn 0) (subst (λ v. val b ≤q v) z l) n)))
scaled-within A N t (fin false (suc m) d) b p q f u g n l h e =
    let a = fin false (suc m) d in
    subst (Hyp N p q) (sym (scaled-else m d b))
    (hyp-intro A N t a b (sqrt binary64 (radicand a b)) p q tt g (above-val m d) n l h (hypot-root a b f u g (above-val m d) n l) e)

-- ---- `hypot_of`
hypot-is : (x y : Float) → T (finite x) → T (finite y)
    → hypot_of x y ≡ cond (lt (abs_of x) (abs_of y)) (scaled_root (abs_of y) (abs_of x)) (scaled_root (abs_of x) (abs_of y))
unfolding hypot_of
hypot-is x y p q = sym (cond_yes _ _ (ap₂ ◌&&◌ (finite-same x ∙ is_true (finite x) p) (finite-same y ∙ is_true (finite y) q)))

module _ (x y : Float) (f : T (fits binary64 x)) (g : T (fits binary64 y)) (p : T (finite x)) (q : T (finite y)) where
  abbrev larger : Float
  larger = max_of (abs_of x) (abs_of y)

  pub hypot-near : T (finite (hypot_of x y)) → Near (hypot_err (val larger)) (val (hypot_of x y) *q val (hypot_of x y)) (val x *q val x +q val y *q val y)
  hypot-near t =
      subst₂ (λ h s. Near (hypot_err (val larger)) (val h *q val h) s) (sym (hypot-is x y p q)) (ap₂ ◌+q◌ (abs-square x) (abs-square y))
      (go (lt (abs_of x) (abs_of y)) (lt_yes (abs_of x) (abs_of y) (abs-finite x p) (abs-finite y q))
      (lt_no (abs_of x) (abs_of y) (abs-finite x p) (abs-finite y q)) (subst (λ h. T (finite h)) (hypot-is x y p q) t))
    where
      go : (b : Bool) → (b ≡ true → val (abs_of x) ≤q val (abs_of y)) → (b ≡ false → val (abs_of y) ≤q val (abs_of x))
          → T (finite (cond b (scaled_root (abs_of y) (abs_of x)) (scaled_root (abs_of x) (abs_of y))))
          → Near (hypot_err (val (cond b (abs_of y) (abs_of x)))) (val (cond b (scaled_root (abs_of y) (abs_of x)) (scaled_root (abs_of x) (abs_of y)))
          *q val (cond b (scaled_root (abs_of y) (abs_of x)) (scaled_root (abs_of x) (abs_of y))))
          (val (abs_of x) *q val (abs_of x) +q val (abs_of y) *q val (abs_of y))
      go true l m t =
          subst (λ s. Near (hypot_err (val (abs_of y))) (val (scaled_root (abs_of y) (abs_of x)) *q val (scaled_root (abs_of y) (abs_of x))) s)
          (+q-comm (val (abs_of y) *q val (abs_of y)) (val (abs_of x) *q val (abs_of x)))
          (scaled-law (abs_of y) (abs_of x) (abs-fits y g) (abs-unsigned y q) (abs-finite x p) (abs-nn x) (l refl) t)
      go false l m t = scaled-law (abs_of x) (abs_of y) (abs-fits x f) (abs-unsigned x p) (abs-finite y q) (abs-nn y) (m refl) t

  -- for a larger magnitude of at least 2 ^ -1022: within 2 ^ -48 m²
  pub hypot-normal : T (finite (hypot_of x y)) → mk (tiny 1022) ≤q val larger
      → Near (mk (tiny 48) *q (val larger *q val larger)) (val (hypot_of x y) *q val (hypot_of x y)) (val x *q val x +q val y *q val y)
  hypot-normal t l =
      near-mono (hypot_err (val larger)) (mk (tiny 48) *q (val larger *q val larger)) (val (hypot_of x y) *q val (hypot_of x y))
      (val x *q val x +q val y *q val y) (err-normal (val larger) l) (hypot-near t)

  -- for arguments of at most A / U, where the test passes: a finite result, within N / U
  pub hypot-within : (A N : ℕ) → T (hyp-fits A N) → Abs (val x) A → Abs (val y) A → Hyp N x y (hypot_of x y)
  hypot-within A N k a b =
      subst (Hyp N x y) (sym (hypot-is x y p q))
      (go (lt (abs_of x) (abs_of y)) (lt_yes (abs_of x) (abs_of y) (abs-finite x p) (abs-finite y q))
      (lt_no (abs_of x) (abs_of y) (abs-finite x p) (abs-finite y q)))
    where
      go : (b : Bool) → (b ≡ true → val (abs_of x) ≤q val (abs_of y)) → (b ≡ false → val (abs_of y) ≤q val (abs_of x))
          → Hyp N x y (cond b (scaled_root (abs_of y) (abs_of x)) (scaled_root (abs_of x) (abs_of y)))
      go true l m =
          scaled-within A N k (abs_of y) (abs_of x) x y (abs-fits y g) (abs-unsigned y q) (abs-finite x p) (abs-nn x) (l refl) (abs-abs y A b)
          (+q-comm (val (abs_of y) *q val (abs_of y)) (val (abs_of x) *q val (abs_of x)) ∙ ap₂ ◌+q◌ (abs-square x) (abs-square y))
      go false l m =
          scaled-within A N k (abs_of x) (abs_of y) x y (abs-fits x f) (abs-unsigned x p) (abs-finite y q)
          (abs-nn y) (m refl) (abs-abs x A a) (ap₂ ◌+q◌ (abs-square x) (abs-square y))
