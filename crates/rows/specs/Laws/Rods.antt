-- Rods: where the row's value, the length of delta less L, is at most its tolerance, d² lies from (L - 10^-6)² to (L + 10^-6)².
-- The error of the two hypotenuses counts in proportion, so there are two cases: L up to 64, and above.
use Rattle.std.specs.Prelude.{◌≡◌, refl, List, [], ◌∷◌, Bool, true, false, not, ◌&&◌, ℕ, ◌+◌, ◌*◌, ◌^◌, T, leb, Float}
use Rattle.std.proofs.Common.{sym, subst, leb→le, lit<}
use mathlib.Core.Quot.{sound}
use Rattle.std.specs.Float.Ieee.{round, le}
use Rattle.std.specs.Float.Ieee.Scale.{finite}
use Rattle.exact.specs.Rat.{ℚ, Fr, mk, qn, leq, ◌+q◌, ◌-q◌, ◌*q◌, negq, ◌≤q◌, ≤q-sub, sub-≤q, ≤q-total}
use Rattle.exact.specs.Abs.{U, iv, iv_f, 0≤, Abs, abs-eq, abs-mono, abs-add}
use Rattle.exact.specs.RingQ.{Rx, rv, rat, ◌⊕◌, ◌⊖◌, ◌⊗◌, same_q, ring_q}
use Rattle.exact.specs.Cert.{nat, Nns, comb, den, by-nn, hyp, sqr, num, ◌⊞◌, ◌⊠◌, bounds, bound}
use Rattle.exact.specs.Val.{val}
use Rattle.exact.specs.Compare.{le_val}
use Rattle.exact.specs.Check.{own}
use Rattle.exact.specs.Hypot.{hyp-fits}
use Rattle.arith.specs.Real.{◌⊖◌ as ◌⊖ᶠ◌, ratio, abs_of}
use Rattle.vectors.specs.declared.vector.Vec3.{Vec3}
use Rattle.vectors.specs.Vector.{length_of}
use Rattle.vectors.specs.Laws.Tests.{both, abs-limit, finite-between}
use Rattle.vectors.specs.Laws.Back.{sub_back}
use Rattle.vectors.specs.Laws.Length.{root-abs, sides, Long, Fits3, vec-length}
use Rattle.vectors.specs.Laws.Normal.{Is}
use Rattle.rows.specs.ExactGeometry.{Vector, ◌·◌, micrometre}
use Rattle.rows.specs.Laws.Anchors.{IsV}
use Rattle.rows.specs.Laws.Linear.{tol_top, value-top, d_top, d_err}

abbrev μ : Fr
μ = record { p = 1; n = 0; d = 10 ^ 6; dp = lit< tt }

-- ---- l within 2 ^ -28 of L, and l² near s: from L ≥ 1/8 and within 2 ^ -23, or from L ≥ 64 and within 2 ^ -13
abbrev pub Bounded : ℚ → ℚ → Type 0
Bounded L s = ((L -q micrometre) *q (L -q micrometre) ≤q s) × (s ≤q (L +q micrometre) *q (L +q micrometre))

abbrev pub eighth : Fr
eighth = record { p = 1; n = 0; d = 8; dp = lit< tt }

short : (L l s : ℚ) → 0≤ l → 0≤ (L -q mk eighth) → Abs (l -q L) (2 ^ 228) → Abs (l *q l -q s) (2 ^ 233) → Bounded L s
unfolding same_q den comb iv U
short L l s p h k j =
    let ρ = L ∷ l ∷ s ∷ [] in
    let H : List Rx =
    (rat (iv_f (2 ^ 228)) ⊖ (rv 1 ⊖ rv 0)) ∷ rv 1 ∷ (rv 0 ⊖ rat eighth) ∷ (rat (iv_f (2 ^ 233)) ⊕ (rv 1 ⊗ rv 1 ⊖ rv 2))
    ∷ (rat (iv_f (2 ^ 228)) ⊕ (rv 1 ⊖ rv 0)) ∷ (rat (iv_f (2 ^ 233)) ⊖ (rv 1 ⊗ rv 1 ⊖ rv 2)) ∷ [] in
    let w : Nns ρ H = (k.0, (p, (h, (j.1, (k.1, (j.0, tt)))))) in (
      sub-≤q ((L -q micrometre) *q (L -q micrometre)) s
          (by-nn ρ [] tt H w []
          (hyp 4 ⊠ (hyp 1 ⊞ hyp 2 ⊞ num 33554431 268435455) ⊞ num 4178679 2097151999999 ⊠ hyp 2
          ⊞ hyp 5 ⊞ num 2284492919162096209 17592186044415999999999999)
          (rv 2 ⊖ (rv 0 ⊖ rat μ) ⊗ (rv 0 ⊖ rat μ)) tt),
      sub-≤q s ((L +q micrometre) *q (L +q micrometre))
          (by-nn ρ [] tt H w []
          (hyp 0 ⊠ (hyp 2 ⊞ num 33554433 268435455 ⊞ hyp 1) ⊞ num 4178679 2097151999999 ⊠ hyp 2
          ⊞ hyp 3 ⊞ num 2284528103045903791 17592186044415999999999999)
          ((rv 0 ⊕ rat μ) ⊗ (rv 0 ⊕ rat μ) ⊖ rv 2) tt),
    )

long : (L l s : ℚ) → 0≤ l → 0≤ (L -q qn 64) → Abs (l -q L) (2 ^ 228) → Abs (l *q l -q s) (2 ^ 243) → Bounded L s
unfolding same_q den comb iv U
long L l s p h k j =
    let ρ = L ∷ l ∷ s ∷ [] in
    let H : List Rx =
    (rat (iv_f (2 ^ 228)) ⊖ (rv 1 ⊖ rv 0)) ∷ rv 1 ∷ (rv 0 ⊖ nat 64) ∷ (rat (iv_f (2 ^ 243)) ⊕ (rv 1 ⊗ rv 1 ⊖ rv 2))
    ∷ (rat (iv_f (2 ^ 228)) ⊕ (rv 1 ⊖ rv 0)) ∷ (rat (iv_f (2 ^ 243)) ⊖ (rv 1 ⊗ rv 1 ⊖ rv 2)) ∷ [] in
    let w : Nns ρ H = (k.0, (p, (h, (j.1, (k.1, (j.0, tt)))))) in (
      sub-≤q ((L -q micrometre) *q (L -q micrometre)) s
          (by-nn ρ [] tt H w []
          (hyp 4 ⊠ (hyp 1 ⊞ hyp 2 ⊞ num 17179869183 268435455) ⊞ num 4178679 2097151999999 ⊠ hyp 2
          ⊞ hyp 5 ⊞ num 95927540093306096209 17592186044415999999999999)
          (rv 2 ⊖ (rv 0 ⊖ rat μ) ⊗ (rv 0 ⊖ rat μ)) tt),
      sub-≤q s ((L +q micrometre) *q (L +q micrometre))
          (by-nn ρ [] tt H w []
          (hyp 0 ⊠ (hyp 2 ⊞ num 17179869185 268435455 ⊞ hyp 1) ⊞ num 4178679 2097151999999 ⊠ hyp 2
          ⊞ hyp 3 ⊞ num 95927575277189903791 17592186044415999999999999)
          ((rv 0 ⊕ rat μ) ⊗ (rv 0 ⊕ rat μ) ⊖ rv 2) tt),
    )

-- ---- L ≤ 64: each part of delta is at most 65
small : (L l x y z : ℚ) → 0≤ l → L ≤q qn 64 → Abs (l -q L) (2 ^ 228) → Abs (l *q l -q (x *q x +q y *q y +q z *q z)) (3 * 2 ^ 238) → Abs x (65 * 2 ^ 256)
unfolding same_q den comb iv U
small L l x y z p h k j =
    let ρ = L ∷ l ∷ x ∷ y ∷ z ∷ [] in
    let s = rv 2 ⊗ rv 2 ⊕ rv 3 ⊗ rv 3 ⊕ rv 4 ⊗ rv 4 in
    let H : List Rx = (rat (iv_f (3 * 2 ^ 238)) ⊕ (rv 1 ⊗ rv 1 ⊖ s)) ∷ (nat 64 ⊖ rv 0) ∷ (rat (iv_f (2 ^ 228)) ⊖ (rv 1 ⊖ rv 0)) ∷ rv 1 ∷ [] in
    let w : Nns ρ H = (j.1, (≤q-sub L (qn 64) h, (k.0, (p, tt)))) in
    root-abs x (65 * 2 ^ 256) tt
    (by-nn ρ [] tt H w []
    (sqr (rv 3) ⊞ sqr (rv 4) ⊞ hyp 0 ⊞ (hyp 1 ⊞ hyp 2) ⊠ (num 17179869185 268435455 ⊞ hyp 3) ⊞ num 9295428771899244543 72057594037927935)
    (rat (iv_f (65 * 2 ^ 256)) ⊗ rat (iv_f (65 * 2 ^ 256)) ⊖ rv 2 ⊗ rv 2) tt)

-- ---- delta² less d², for parts of at most A
off_r : Rx
off_r = rv 0 ⊗ (nat 2 ⊗ rv 3 ⊖ rv 0) ⊕ rv 1 ⊗ (nat 2 ⊗ rv 4 ⊖ rv 1) ⊕ rv 2 ⊗ (nat 2 ⊗ rv 5 ⊖ rv 2)

unfoldable pub offs : ℕ → ℕ → Bool
unfolding off_r bounds
offs A K = bounds (d_err ∷ d_err ∷ d_err ∷ A ∷ A ∷ A ∷ []) off_r K

squares : (A K e S : ℕ) → T (offs A K) → T (leb (e + K) S) → (l x y z a b c : ℚ)
    → Abs x A → Abs y A → Abs z A → Abs (x -q a) d_err → Abs (y -q b) d_err → Abs (z -q c) d_err
    → Abs (l *q l -q (x *q x +q y *q y +q z *q z)) e → Abs (l *q l -q (a *q a +q b *q b +q c *q c)) S
unfolding offs off_r same_q
squares A K e S t u l x y z a b c hx hy hz dx dy dz j =
    let ρ = l ∷ x ∷ y ∷ z ∷ a ∷ b ∷ c ∷ [] in
    let o = bound ((x -q a) ∷ (y -q b) ∷ (z -q c) ∷ x ∷ y ∷ z ∷ []) (d_err ∷ d_err ∷ d_err ∷ A ∷ A ∷ A ∷ []) (dx, (dy, (dz, (hx, (hy, (hz, tt)))))) off_r K t in
    let s = x *q x +q y *q y +q z *q z in
    let r = (x -q a) *q (qn 2 *q x -q (x -q a)) +q (y -q b) *q (qn 2 *q y -q (y -q b)) +q (z -q c) *q (qn 2 *q z -q (z -q c)) in
    abs-mono (l *q l -q (a *q a +q b *q b +q c *q c)) (e + K) S (leb→le (e + K) S u)
    (abs-eq ((l *q l -q s) +q r) (l *q l -q (a *q a +q b *q b +q c *q c)) (e + K)
    (ring_q ρ
    ((rv 0 ⊗ rv 0 ⊖ (rv 1 ⊗ rv 1 ⊕ rv 2 ⊗ rv 2 ⊕ rv 3 ⊗ rv 3))
    ⊕ ((rv 1 ⊖ rv 4) ⊗ (nat 2 ⊗ rv 1 ⊖ (rv 1 ⊖ rv 4)) ⊕ (rv 2 ⊖ rv 5) ⊗ (nat 2 ⊗ rv 2 ⊖ (rv 2 ⊖ rv 5)) ⊕ (rv 3 ⊖ rv 6) ⊗ (nat 2 ⊗ rv 3 ⊖ (rv 3 ⊖ rv 6))))
    (rv 0 ⊗ rv 0 ⊖ (rv 4 ⊗ rv 4 ⊕ rv 5 ⊗ rv 5 ⊕ rv 6 ⊗ rv 6)) tt)
    (abs-add (l *q l -q s) r e K j o))

abbrev wide : ℕ
wide = 71 * 2 ^ 264

abbrev near : ℕ
near = 65 * 2 ^ 256

wide-sides : T (sides wide wide wide (2 ^ 238) (101 * 2 ^ 264)) × T (sides (101 * 2 ^ 264) wide (101 * 2 ^ 264) (2 ^ 239) (124 * 2 ^ 264))
    × T (offs wide (2 ^ 238)) × T (leb (2 ^ 239 + (2 ^ 238 + 0) + (2 ^ 238)) (2 ^ 243))
unfolding sides offs hyp-fits leq ◌+q◌ ◌*q◌ iv U negq
wide-sides = (tt, tt, tt, tt)

near-sides : T (sides near near near (2 ^ 220) (92 * 2 ^ 256)) × T (sides (92 * 2 ^ 256) near (92 * 2 ^ 256) (2 ^ 221) (113 * 2 ^ 256))
    × T (offs near (7 * 2 ^ 227)) × T (leb (2 ^ 221 + (2 ^ 220 + 0) + 7 * 2 ^ 227) (2 ^ 233))
unfolding sides offs hyp-fits leq ◌+q◌ ◌*q◌ iv U negq
near-sides = (tt, tt, tt, tt)

eighth-limit : T (finite (ratio 1 8)) × (val (ratio 1 8) ≡ mk eighth)
unfolding round
eighth-limit = (tt, sound refl)

longest : T (finite (ratio 8192 1))
unfolding round
longest = tt

abbrev pub length_in : Float → Bool
length_in length = le (ratio 1 8) length && le length (ratio 8192 1)

own-wide : (f : Float) (x : ℚ) → Is f x d_top d_err → Abs (val f) wide
own-wide f x h = abs-mono (val f) (d_top + d_err) wide (leb→le (d_top + d_err) wide tt) (own (val f) x d_top d_err h.1 h.2)

round-sum : (l x y z : ℚ) (e : ℕ) → Abs (l *q l -q (x *q x +q y *q y +q z *q z)) e → Abs (l *q l -q (y *q y +q z *q z +q x *q x)) e
unfolding same_q
round-sum l x y z e h =
    abs-eq (l *q l -q (x *q x +q y *q y +q z *q z)) (l *q l -q (y *q y +q z *q z +q x *q x)) e
    (ring_q (l ∷ x ∷ y ∷ z ∷ [])
    (rv 0 ⊗ rv 0 ⊖ (rv 1 ⊗ rv 1 ⊕ rv 2 ⊗ rv 2 ⊕ rv 3 ⊗ rv 3)) (rv 0 ⊗ rv 0 ⊖ (rv 2 ⊗ rv 2 ⊕ rv 3 ⊗ rv 3 ⊕ rv 1 ⊗ rv 1)) tt) h

module _ (delta : Vec3) (d : Vector) (D : IsV delta d d_top d_err) where
  abbrev x : ℚ
  x = val delta.x

  abbrev y : ℚ
  y = val delta.y

  abbrev z : ℚ
  z = val delta.z

  abbrev l : ℚ
  l = val (length_of delta)

  x-wide : Abs x wide
  x-wide = own-wide delta.x d.x D.x-is

  y-wide : Abs y wide
  y-wide = own-wide delta.y d.y D.y-is

  z-wide : Abs z wide
  z-wide = own-wide delta.z d.z D.z-is

  module _ (L : Float) (F : Fits3 delta) (lo : mk eighth ≤q val L) (W : Long (length_of delta) (x *q x +q y *q y +q z *q z) (3 * 2 ^ 238) (124 * 2 ^ 264))
      (off : Abs (l -q val L) (2 ^ 228)) where
    by_length : (b : Bool) → leq (val L) (qn 64) ≡ b → Bounded (val L) (d · d)
    by_length true b =
        let low = subst T (sym b) tt in
        let n = W.side.near in
        let hx = small (val L) l x y z W.not_neg low off n in
        let hy = small (val L) l y z x W.not_neg low off (round-sum l x y z (3 * 2 ^ 238) n) in
        let hz = small (val L) l z x y W.not_neg low off (round-sum l y z x (3 * 2 ^ 238) (round-sum l x y z (3 * 2 ^ 238) n)) in
        let M = vec-length near (92 * 2 ^ 256) (113 * 2 ^ 256) (2 ^ 220) (2 ^ 221) near-sides.0 near-sides.1 delta F hx hy hz in
        short (val L) l (d · d) W.not_neg (≤q-sub (mk eighth) (val L) lo) off
        (squares near (7 * 2 ^ 227) (2 ^ 221 + (2 ^ 220 + 0)) (2 ^ 233) near-sides.2 near-sides.3 l x y z d.x d.y d.z hx hy hz
        D.x-is.2 D.y-is.2 D.z-is.2 M.side.near)
    by_length false b =
        long (val L) l (d · d) W.not_neg (≤q-sub (qn 64) (val L) (≤q-total (val L) (qn 64) (subst (λ c. T (not c)) (sym b) tt))) off
        (squares wide (2 ^ 238) (2 ^ 239 + (2 ^ 238 + 0)) (2 ^ 243) wide-sides.2 wide-sides.3 l x y z d.x d.y d.z x-wide y-wide z-wide
        D.x-is.2 D.y-is.2 D.z-is.2 W.side.near)

pub rod-met : (delta : Vec3) (d : Vector) (L v t : Float) → Fits3 delta → IsV delta d d_top d_err → length_of delta ⊖ᶠ L ≡ v
    → T (finite L) → mk eighth ≤q val L → T (finite t) → Abs (val t) tol_top → T (le (abs_of v) t) → Bounded (val L) (d · d)
rod-met delta d L v t F D e f_l lo ft ht k =
    let l = length_of delta in
    let W =
    vec-length wide (101 * 2 ^ 264) (124 * 2 ^ 264) (2 ^ 238) (2 ^ 239) wide-sides.0 wide-sides.1 delta F
    (x-wide delta d D) (y-wide delta d D) (z-wide delta d D) in
    let fv = (abs-limit v t ft k).0 in
    let apart =
    sub_back l L tol_top W.side.fine f_l (subst (λ a. T (finite a)) (sym e) fv)
    (subst (λ a. Abs (val a) tol_top) (sym e) (value-top v t tol_top ft ht k)) in
    let off = abs-mono (val l -q val L) (2 * tol_top + 1) (2 ^ 228) (leb→le (2 * tol_top + 1) (2 ^ 228) tt) apart in
    by_length delta d D L F lo W off (leq (val L) (qn 64)) refl

-- the test of refusal 9
pub length-in : (L : Float) → T (length_in L) → T (finite L) × (mk eighth ≤q val L)
length-in L t =
    let a = both (le (ratio 1 8) L) (le L (ratio 8192 1)) t in
    let f = finite-between (ratio 1 8) L (ratio 8192 1) eighth-limit.0 longest a.0 a.1 in
    (f, subst (λ w. w ≤q val L) eighth-limit.1 (subst T (le_val (ratio 1 8) L eighth-limit.0 f) a.0))
