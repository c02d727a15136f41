-- Facts on fractions for the laws on normalised quaternions, each by one computed test. Slacks in certificates are exact.
use Rattle.std.specs.Prelude.{◌≡◌, List, [], ◌∷◌, not, ℕ, ◌+◌, ◌-◌, ◌*◌, ◌^◌, T}
use Rattle.std.proofs.Common.{lit<}
use Rattle.exact.specs.Rat.{ℚ, mk, qn, leq, ◌+q◌, ◌-q◌, ◌*q◌, ≤q-sub, sub-≤q, inv, inv-ok, cancel-nn}
use Rattle.exact.specs.Abs.{U, iv, iv_f, 0≤, Abs, abs-eq, positive}
use Rattle.exact.specs.RingQ.{Rx, rv, rat, ◌⊕◌, ◌⊖◌, ◌⊗◌, same_q, ring_q}
use Rattle.exact.specs.Cert.{nat, Eqs, comb, by-nn, Nns, hyp, sqr, num, ◌⊞◌, ◌⊠◌, den, bounds, bound}
use Rattle.exact.specs.Val.{rnd}
use Rattle.exact.specs.Relative.{tiny}
use Rattle.vectors.specs.Laws.Length.{Close}

-- the sum of the four squares
abbrev pub norm : ℚ → ℚ → ℚ → ℚ → ℚ
norm x y z w = x *q x +q y *q y +q z *q z +q w *q w

abbrev pub norm_r : Rx → Rx → Rx → Rx → Rx
norm_r x y z w = x ⊗ x ⊕ y ⊗ y ⊕ z ⊗ z ⊕ w ⊗ w

-- ---- 1 / y
pub inv-nn : (y : ℚ) → T (not (leq y (qn 0))) → 0≤ (inv y)
unfolding same_q den comb
inv-nn y p = cancel-nn y (inv y) p (by-nn (y ∷ inv y ∷ []) ((rv 0 ⊗ rv 1, nat 1) ∷ []) (inv-ok y p, tt) [] tt (nat 1 ∷ []) (num 1 0) (rv 0 ⊗ rv 1) tt)

-- |b| ≤ a and 0 < a: |b / a| ≤ 1
pub share : (a b : ℚ) → T (not (leq a (qn 0))) → 0≤ (a -q b) → 0≤ (a +q b) → Abs (b *q inv a) (2 ^ 256)
unfolding same_q den comb iv U
share a b p g h =
    let E : List (Rx × Rx) = (rv 0 ⊗ rv 2, nat 1) ∷ [] in
    let ρ : List ℚ = a ∷ b ∷ inv a ∷ [] in
    let e : Eqs ρ E = (inv-ok a p, tt) in
    let H : List Rx = (rv 0 ⊖ rv 1) ∷ (rv 0 ⊕ rv 1) ∷ [] in
    let k : Nns ρ H = (g, (h, tt)) in (
      cancel-nn a (iv (2 ^ 256) -q b *q inv a) p (by-nn ρ E e H k ((nat 0 ⊖ rv 1) ∷ []) (hyp 0) (rv 0 ⊗ (rat (iv_f (2 ^ 256)) ⊖ rv 1 ⊗ rv 2)) tt),
      cancel-nn a (iv (2 ^ 256) +q b *q inv a) p (by-nn ρ E e H k (rv 1 ∷ []) (hyp 1) (rv 0 ⊗ (rat (iv_f (2 ^ 256)) ⊕ rv 1 ⊗ rv 2)) tt),
    )

-- 255 / 256, and 129 / 128
abbrev pub l_min : ℕ
l_min = 255 * 2 ^ 248

abbrev pub p_max : ℕ
p_max = 129 * 2 ^ 249

pub low-pos : (y : ℚ) → 0≤ (y -q iv l_min) → T (not (leq y (qn 0)))
low-pos y g = positive y l_min (lit< tt) (sub-≤q (iv l_min) y g)

-- ---- the quaternion divided by its largest magnitude m, k = 1 / m: the squares sum to at least 1
pub norm-one : (m k x y z w : ℚ) → m *q k ≡ qn 1 → 0≤ (norm x y z w -q m *q m) → 0≤ (norm (x *q k) (y *q k) (z *q k) (w *q k) -q qn 1)
unfolding same_q den comb
norm-one m k x y z w e g =
    by-nn (m ∷ k ∷ x ∷ y ∷ z ∷ w ∷ []) ((rv 0 ⊗ rv 1, nat 1) ∷ []) (e, tt) ((norm_r (rv 2) (rv 3) (rv 4) (rv 5) ⊖ rv 0 ⊗ rv 0) ∷ []) (g, tt)
    ((rv 0 ⊗ rv 1 ⊕ nat 1) ∷ []) (hyp 0 ⊠ sqr (rv 1)) (norm_r (rv 2 ⊗ rv 1) (rv 3 ⊗ rv 1) (rv 4 ⊗ rv 1) (rv 5 ⊗ rv 1) ⊖ nat 1) tt

-- ---- the length l of four sides, by three hypotenuses: l² is within 3 · 2 ^ -49 of the sum of the squares, and a bit
abbrev pub l_err : ℕ
l_err = 3 * 2 ^ 207 + 2 ^ 160

abbrev pub Sums : ℚ → ℚ → Type 0
Sums l n = 0≤ (iv l_err *q n +q iv 4 -q (l -q n)) × 0≤ (iv l_err *q n +q iv 4 +q (l -q n))

pub lengths : (x y z w h k l : ℚ) → Close (h *q h) (x *q x +q y *q y) → Close (k *q k) (h *q h +q z *q z)
    → Close (l *q l) (k *q k +q w *q w) → Sums (l *q l) (norm x y z w)
unfolding same_q den comb iv U
lengths x y z w h k l a b c =
    let ρ = x ∷ y ∷ z ∷ w ∷ h ∷ k ∷ l ∷ [] in
    let e : Rx → Rx = λ s. rat (tiny 49) ⊗ s ⊕ rat (iv_f 1) in
    let xy = rv 0 ⊗ rv 0 ⊕ rv 1 ⊗ rv 1 in let hz = rv 4 ⊗ rv 4 ⊕ rv 2 ⊗ rv 2 in let kw = rv 5 ⊗ rv 5 ⊕ rv 3 ⊗ rv 3 in
    let n = norm_r (rv 0) (rv 1) (rv 2) (rv 3) in
    let H : List Rx = (xy ⊕ e xy ⊖ rv 4 ⊗ rv 4) ∷ (rv 4 ⊗ rv 4 ⊕ e xy ⊖ xy) ∷ (hz ⊕ e hz ⊖ rv 5 ⊗ rv 5)
    ∷ (rv 5 ⊗ rv 5 ⊕ e hz ⊖ hz) ∷ (kw ⊕ e kw ⊖ rv 6 ⊗ rv 6) ∷ (rv 6 ⊗ rv 6 ⊕ e kw ⊖ kw) ∷ [] in
    let s₁ = x *q x +q y *q y in let s₂ = h *q h +q z *q z in let s₃ = k *q k +q w *q w in
    let E : ℚ → ℚ = λ s. mk (tiny 49) *q s +q iv 1 in
    let K : Nns ρ H = (
      ≤q-sub (h *q h) (s₁ +q E s₁) a.0,
      (
        ≤q-sub s₁ (h *q h +q E s₁) a.1,
        (
          ≤q-sub (k *q k) (s₂ +q E s₂) b.0,
          (≤q-sub s₂ (k *q k +q E s₂) b.1, (≤q-sub (l *q l) (s₃ +q E s₃) c.0, (≤q-sub s₃ (l *q l +q E s₃) c.1, tt))),
        ),
      ),
    ) in (
      by-nn ρ [] tt H K []
          (hyp 4 ⊞ num 562949953421313 (2 ^ 49 - 1) ⊠ hyp 2 ⊞ num 316912650057058476274082643969 (2 ^ 98 - 1) ⊠ hyp 0
          ⊞ num 562949953421311 (2 ^ 147 - 1) ⊠ (sqr (rv 0) ⊞ sqr (rv 1)) ⊞ num 562949953421315 (2 ^ 98 - 1) ⊠ sqr (rv 2)
          ⊞ num 281474976710657 (2 ^ 96 - 1) ⊠ sqr (rv 3) ⊞ num 316912650057055661524315537407 (2 ^ 354 - 1))
          (rat (iv_f l_err) ⊗ n ⊕ rat (iv_f 4) ⊖ (rv 6 ⊗ rv 6 ⊖ n)) tt,
      by-nn ρ [] tt H K []
          (hyp 5 ⊞ num 562949953421311 (2 ^ 49 - 1) ⊠ hyp 3 ⊞ num 316912650057056224474268958721 (2 ^ 98 - 1) ⊠ hyp 1
          ⊞ num 3940649673949183 (2 ^ 147 - 1) ⊠ (sqr (rv 0) ⊞ sqr (rv 1)) ⊞ num 562949953421317 (2 ^ 98 - 1) ⊠ sqr (rv 2)
          ⊞ num 281474976710657 (2 ^ 96 - 1) ⊠ sqr (rv 3) ⊞ num 316912650057059039224036065279 (2 ^ 354 - 1))
          (rat (iv_f l_err) ⊗ n ⊕ rat (iv_f 4) ⊕ (rv 6 ⊗ rv 6 ⊖ n)) tt,
    )

-- n is within 57 · 2 ^ -53 of l, in proportion to l
abbrev pub c_err : ℕ
c_err = 57 * 2 ^ 203

abbrev pub Part : ℚ → ℚ → Type 0
Part l n = 0≤ (iv c_err *q l -q (l -q n)) × 0≤ (iv c_err *q l +q (l -q n))

-- the squares of a, b, c, d, which are A, B, C, D rounded once, sum to nearly the same: l² is near both sums
pub norms : (l a b c d A B C D : ℚ) → Abs A (2 ^ 256) → Abs B (2 ^ 256) → Abs C (2 ^ 256) → Abs D (2 ^ 256)
    → Abs (a -q A) (rnd (2 ^ 256)) → Abs (b -q B) (rnd (2 ^ 256)) → Abs (c -q C) (rnd (2 ^ 256)) → Abs (d -q D) (rnd (2 ^ 256))
    → Sums (l *q l) (norm a b c d) → 0≤ (norm A B C D -q qn 1) → Part (l *q l) (norm A B C D)
unfolding same_q den comb bounds iv U
norms l a b c d A B C D h_a h_b h_c h_d ha hb hc hd hl g =
    let δ = 33 * 2 ^ 201 in
    let off =
    abs-eq ((a -q A) *q (qn 2 *q A +q (a -q A)) +q (b -q B) *q (qn 2 *q B +q (b -q B))
    +q (c -q C) *q (qn 2 *q C +q (c -q C)) +q (d -q D) *q (qn 2 *q D +q (d -q D))) (norm a b c d -q norm A B C D) δ
    (ring_q (a ∷ b ∷ c ∷ d ∷ A ∷ B ∷ C ∷ D ∷ []) ((rv 0 ⊖ rv 4) ⊗ (nat 2 ⊗ rv 4 ⊕ (rv 0 ⊖ rv 4)) ⊕ (rv 1 ⊖ rv 5) ⊗ (nat 2 ⊗ rv 5 ⊕ (rv 1 ⊖ rv 5))
    ⊕ (rv 2 ⊖ rv 6) ⊗ (nat 2 ⊗ rv 6 ⊕ (rv 2 ⊖ rv 6)) ⊕ (rv 3 ⊖ rv 7) ⊗ (nat 2 ⊗ rv 7 ⊕ (rv 3 ⊖ rv 7)))
    (norm_r (rv 0) (rv 1) (rv 2) (rv 3) ⊖ norm_r (rv 4) (rv 5) (rv 6) (rv 7)) tt)
    (bound ((a -q A) ∷ (b -q B) ∷ (c -q C) ∷ (d -q D) ∷ A ∷ B ∷ C ∷ D ∷ [])
    (rnd (2 ^ 256) ∷ rnd (2 ^ 256) ∷ rnd (2 ^ 256) ∷ rnd (2 ^ 256) ∷ 2 ^ 256 ∷ 2 ^ 256 ∷ 2 ^ 256 ∷ 2 ^ 256 ∷ [])
    (ha, (hb, (hc, (hd, (h_a, (h_b, (h_c, (h_d, tt))))))))
    (rv 0 ⊗ (nat 2 ⊗ rv 4 ⊕ rv 0) ⊕ rv 1 ⊗ (nat 2 ⊗ rv 5 ⊕ rv 1) ⊕ rv 2 ⊗ (nat 2 ⊗ rv 6 ⊕ rv 2) ⊕ rv 3 ⊗ (nat 2 ⊗ rv 7 ⊕ rv 3)) δ tt) in
    let ρ = l ∷ norm a b c d ∷ norm A B C D ∷ [] in
    let L = rv 0 ⊗ rv 0 in
    let e = rat (iv_f l_err) ⊗ rv 1 ⊕ rat (iv_f 4) in
    let H : List Rx = (e ⊖ (L ⊖ rv 1)) ∷ (e ⊕ (L ⊖ rv 1)) ∷ (rat (iv_f δ) ⊖ (rv 1 ⊖ rv 2)) ∷ (rat (iv_f δ) ⊕ (rv 1 ⊖ rv 2)) ∷ (rv 2 ⊖ nat 1) ∷ [] in
    let K : Nns ρ H = (hl.0, (hl.1, (off.0, (off.1, (g, tt))))) in (
      by-nn ρ [] tt H K []
          (num 9007199254740935 (2 ^ 53 - 1) ⊠ hyp 0 ⊞ num 713623846352979227475680356330650315041800135 (2 ^ 149 - 1) ⊠ hyp 2
          ⊞ num 713053462628394097253149573177 (2 ^ 149 - 1) ⊠ hyp 4
          ⊞ num 21711016732002527428082674957754366316973140928230665186322811100742922797113 (2 ^ 307 - 1))
          (rat (iv_f c_err) ⊗ L ⊖ (L ⊖ rv 2)) tt,
      by-nn ρ [] tt H K []
          (num 9007199254741049 (2 ^ 53 - 1) ⊠ hyp 1 ⊞ num 713623846352980653582605613070712600323424199 (2 ^ 149 - 1) ⊠ hyp 3
          ⊞ num 713053462628345965032132050887 (2 ^ 149 - 1) ⊠ hyp 4
          ⊞ num 21711016731984463837527159612442896711152375288200895305010300122367944294343 (2 ^ 307 - 1))
          (rat (iv_f c_err) ⊗ L ⊕ (L ⊖ rv 2)) tt,
    )

-- n ≥ 1, and l ≥ 0, give l ≥ 255 / 256
pub length-low : (l n : ℚ) → 0≤ l → Part (l *q l) n → 0≤ (n -q qn 1) → 0≤ (l -q iv l_min)
unfolding same_q den comb iv U
length-low l n p h g =
    let q : 0≤ ((l +q iv l_min) -q iv l_min) = by-nn (l ∷ []) [] tt (rv 0 ∷ []) (p, tt) [] (hyp 0) ((rv 0 ⊕ rat (iv_f l_min)) ⊖ rat (iv_f l_min)) tt in
    let H : List Rx = (rat (iv_f c_err) ⊗ (rv 0 ⊗ rv 0) ⊕ (rv 0 ⊗ rv 0 ⊖ rv 1)) ∷ (rv 1 ⊖ nat 1) ∷ [] in
    cancel-nn (l +q iv l_min) (l -q iv l_min) (low-pos (l +q iv l_min) q)
    (by-nn (l ∷ n ∷ []) [] tt H (h.1, (g, tt)) [] (num 9007199254740992 9007199254741048 ⊠ (hyp 0 ⊞ hyp 1)
    ⊞ num 4602678819168940487 590295810358709387263) ((rv 0 ⊕ rat (iv_f l_min)) ⊗ (rv 0 ⊖ rat (iv_f l_min))) tt)

-- ---- c = k / l: c² times the sum of the squares is as near to 1
pub factor : (x y z w k p l : ℚ) → l *q p ≡ qn 1 → Part (l *q l) (norm (x *q k) (y *q k) (z *q k) (w *q k))
    → Abs (k *q p *q (k *q p) *q norm x y z w -q qn 1) c_err
unfolding same_q den comb iv U
factor x y z w k p l e d =
    let ρ = x ∷ y ∷ z ∷ w ∷ k ∷ p ∷ l ∷ [] in
    let n = norm_r (rv 0) (rv 1) (rv 2) (rv 3) in
    let s = norm_r (rv 0 ⊗ rv 4) (rv 1 ⊗ rv 4) (rv 2 ⊗ rv 4) (rv 3 ⊗ rv 4) in
    let L = rv 6 ⊗ rv 6 in let c = rat (iv_f c_err) in
    let E : List (Rx × Rx) = (rv 6 ⊗ rv 5, nat 1) ∷ [] in
    let H : List Rx = (c ⊗ L ⊖ (L ⊖ s)) ∷ (c ⊗ L ⊕ (L ⊖ s)) ∷ [] in
    let K : Nns ρ H = (d.0, (d.1, tt)) in
    let q = rv 4 ⊗ rv 5 ⊗ (rv 4 ⊗ rv 5) ⊗ n ⊖ nat 1 in (
      by-nn ρ E (e, tt) H K ((nat 0 ⊖ (c ⊕ nat 1) ⊗ (rv 6 ⊗ rv 5 ⊕ nat 1)) ∷ []) (hyp 1 ⊠ sqr (rv 5)) (c ⊖ q) tt,
      by-nn ρ E (e, tt) H K (((nat 1 ⊖ c) ⊗ (rv 6 ⊗ rv 5 ⊕ nat 1)) ∷ []) (hyp 0 ⊠ sqr (rv 5)) (c ⊕ q) tt,
    )
