-- A vector turned by a quaternion, exactly: v + 2 (w (u × v) + u × (u × v)) i for i = 1 / N; and how near to that
-- the doubles come, for a quaternion of doubles near an exact one whose squares sum to nearly 1.
-- The quaternion of doubles is s times the exact one, which turns as that does, and a rest. The rest counts by
-- Cauchy's inequality; besides it counts that the squares of the doubles do not sum to 1. In units of 2 ^ -53, of 512:
-- the rounding 79, the rest 157, the squares 228.
use Rattle.std.specs.Prelude.{◌≡◌, refl, Bool, not, ◌&&◌, ℕ, ◌+◌, ◌*◌, ◌^◌, T, leb, Float}
use Rattle.std.proofs.Common.{sym, ◌∙◌, leb→le, lit<}
use Rattle.std.proofs.Math.Path.{ap, subst}
use mathlib.Core.List.{List, [], ◌∷◌}
use Rattle.std.specs.Float.Ieee.{round}
use Rattle.std.specs.Float.Ieee.Scale.{finite}
use Rattle.exact.specs.Rat.{ℚ, qn, whole, leq, ◌+q◌, ◌-q◌, ◌*q◌, sub-≤q, inv, inv-ok, cancel-nn}
use Rattle.exact.specs.Abs.{U, iv, iv_f, iv-add, 0≤, Abs, mul_up, abs-eq, abs-mono, abs-add, abs-sub, abs-mul, positive}
use Rattle.exact.specs.RingQ.{Rx, rv, rat, ◌⊕◌, ◌⊖◌, ◌⊗◌, ev_r, same_q, ring_q}
use Rattle.exact.specs.Cert.{nat, Eqs, comb, by-eqs, by-nn, Nns, Ct, hyp, sqr, num, ◌⊞◌, ◌⊠◌, den, bounds, bound}
use Rattle.exact.specs.Val.{val}
use Rattle.exact.specs.Check.{Fx, fv, fc, ◌+f◌, ◌-f◌, ◌*f◌, run, exact, err, ok, chk, sound, own, to_r, to_r-ok, plain, free, known}
use Rattle.exact.specs.Given.{Input, given}
use Rattle.arith.specs.Real.{ratio}
use Rattle.vectors.specs.declared.quaternion.Quat.{Quat}
use Rattle.vectors.specs.Laws.Tests.{both}
use Rattle.vectors.specs.Laws.Length.{root-le, root-abs}
use Rattle.vectors.specs.Laws.Fractions.{norm, norm_r, p_max, c_err}
use Rattle.vectors.specs.Laws.Normal.{Is, u_err, unit_err, Normal}

-- ---- the first component of 2 (w (u × v) + u × (u × v)), for u = (x, y, z) and v = (a, b, c); the others by turning the names round
abbrev pub twist : ℚ → ℚ → ℚ → ℚ → ℚ → ℚ → ℚ → ℚ
twist x y z w a b c = qn 2 *q (w *q (y *q c -q z *q b) +q (y *q (x *q b -q y *q a) -q z *q (z *q a -q x *q c)))

abbrev pub twist_r : Rx → Rx → Rx → Rx → Rx → Rx → Rx → Rx
twist_r x y z w a b c = nat 2 ⊗ (w ⊗ (y ⊗ c ⊖ z ⊗ b) ⊕ (y ⊗ (x ⊗ b ⊖ y ⊗ a) ⊖ z ⊗ (z ⊗ a ⊖ x ⊗ c)))

-- the first component of the turned vector, i = 1 / N
abbrev pub turn_by : ℚ → ℚ → ℚ → ℚ → ℚ → ℚ → ℚ → ℚ → ℚ
turn_by i x y z w a b c = a +q twist x y z w a b c *q i

-- ---- N (turned - r) as a function of the quaternion, r the first component of the turned vector: it is 0 at (x, y, z, w), and this is half its
-- slope there. Variables: x, y, z, w, a, b, c, r
abbrev slope_x : Rx
slope_x = rv 0 ⊗ rv 4 ⊕ rv 1 ⊗ rv 5 ⊕ rv 2 ⊗ rv 6 ⊖ rv 7 ⊗ rv 0

abbrev slope_y : Rx
slope_y = rv 0 ⊗ rv 5 ⊕ rv 3 ⊗ rv 6 ⊖ rv 1 ⊗ rv 4 ⊖ rv 7 ⊗ rv 1

abbrev slope_z : Rx
slope_z = rv 0 ⊗ rv 6 ⊖ rv 3 ⊗ rv 5 ⊖ rv 2 ⊗ rv 4 ⊖ rv 7 ⊗ rv 2

abbrev slope_w : Rx
slope_w = rv 3 ⊗ rv 4 ⊕ rv 1 ⊗ rv 6 ⊖ rv 2 ⊗ rv 5 ⊖ rv 7 ⊗ rv 3

abbrev along_r : Rx → Rx → Rx → Rx → Rx
along_r x y z w = slope_x ⊗ x ⊕ slope_y ⊗ y ⊕ slope_z ⊗ z ⊕ slope_w ⊗ w

-- no slope along the quaternion itself
abbrev Level : ℚ → ℚ → ℚ → ℚ → ℚ → ℚ → ℚ → ℚ → Type 0
Level x y z w a b c r = ev_r (x ∷ y ∷ z ∷ w ∷ a ∷ b ∷ c ∷ r ∷ []) (along_r (rv 0) (rv 1) (rv 2) (rv 3)) ≡ qn 0

level : (i x y z w a b c : ℚ) → norm x y z w *q i ≡ qn 1 → Level x y z w a b c (turn_by i x y z w a b c)
unfolding same_q comb
level i x y z w a b c e =
    let N = norm_r (rv 0) (rv 1) (rv 2) (rv 3) in
    let D = twist_r (rv 0) (rv 1) (rv 2) (rv 3) (rv 4) (rv 5) (rv 6) in
    by-eqs (x ∷ y ∷ z ∷ w ∷ a ∷ b ∷ c ∷ turn_by i x y z w a b c ∷ i ∷ []) ((N ⊗ rv 8, nat 1) ∷ (rv 7, rv 4 ⊕ D ⊗ rv 8) ∷ [])
    (e, (refl, tt)) ((nat 0 ⊖ D) ∷ (nat 0 ⊖ N) ∷ []) (along_r (rv 0) (rv 1) (rv 2) (rv 3)) (nat 0) tt

-- how far the turn by (X, Y, Z, W), not divided by the sum of its squares, is from r
apart : (x y z w a b c r s X Y Z W : ℚ) → Level x y z w a b c r
    → let e = X -q s *q x in let f = Y -q s *q y in let g = Z -q s *q z in let h = W -q s *q w in
    (a +q twist X Y Z W a b c) -q r ≡ qn 2 *q s *q ev_r (x ∷ y ∷ z ∷ w ∷ a ∷ b ∷ c ∷ r ∷ e ∷ f ∷ g ∷ h ∷ []) (along_r (rv 8) (rv 9) (rv 10) (rv 11))
    +q twist e f g h a b c +q ((norm X Y Z W -q qn 1) -q norm e f g h) *q (r -q a)
unfolding same_q comb
apart x y z w a b c r s X Y Z W l =
    let A = rv 4 in let B = rv 5 in let C = rv 6 in let R = rv 7 in let S = rv 8 in
    let e = rv 9 ⊖ S ⊗ rv 0 in let f = rv 10 ⊖ S ⊗ rv 1 in let g = rv 11 ⊖ S ⊗ rv 2 in let h = rv 12 ⊖ S ⊗ rv 3 in
    by-eqs (x ∷ y ∷ z ∷ w ∷ a ∷ b ∷ c ∷ r ∷ s ∷ X ∷ Y ∷ Z ∷ W ∷ []) ((along_r (rv 0) (rv 1) (rv 2) (rv 3), nat 0) ∷ []) (l, tt) (S ⊗ S ∷ [])
    ((A ⊕ twist_r (rv 9) (rv 10) (rv 11) (rv 12) A B C) ⊖ R)
    (nat 2 ⊗ S ⊗ along_r e f g h ⊕ twist_r e f g h A B C ⊕ ((norm_r (rv 9) (rv 10) (rv 11) (rv 12) ⊖ nat 1) ⊖ norm_r e f g h) ⊗ (R ⊖ A)) tt

-- ---- a quaternion of doubles near an exact one, whose squares sum to nearly 1
abbrev pub f_err : ℕ
f_err = 2 ^ 207

abbrev pub n_err : ℕ
n_err = 2 ^ 216

pub record NearUnit (f : Quat) (x y z w : ℚ) : Type 0 where
  pub x-near : Abs (val f.x -q x) f_err
  pub y-near : Abs (val f.y -q y) f_err
  pub z-near : Abs (val f.z -q z) f_err
  pub w-near : Abs (val f.w -q w) f_err
  pub size : Abs (norm x y z w -q qn 1) n_err

-- each component is at most 1 + 2 ^ -40
abbrev pub g_max : ℕ
g_max = 2 ^ 256 + 2 ^ 216

pub component : (x y z w : ℚ) → Abs (norm x y z w -q qn 1) n_err → Abs x g_max
unfolding same_q den comb iv U
component x y z w h =
    root-abs x g_max tt
    (by-nn (x ∷ y ∷ z ∷ w ∷ []) [] tt ((rat (iv_f n_err) ⊖ (norm_r (rv 0) (rv 1) (rv 2) (rv 3) ⊖ nat 1)) ∷ []) (h.0, tt) []
    (hyp 0 ⊞ sqr (rv 1) ⊞ sqr (rv 2) ⊞ sqr (rv 3) ⊞ num 1099511627777 1208925819614629174706175) (rat (iv_f g_max) ⊗ rat (iv_f g_max) ⊖ rv 0 ⊗ rv 0) tt)

pub round-names : (x y z w : ℚ) → norm x y z w ≡ norm y z x w
unfolding same_q
round-names x y z w = ring_q (x ∷ y ∷ z ∷ w ∷ []) (norm_r (rv 0) (rv 1) (rv 2) (rv 3)) (norm_r (rv 1) (rv 2) (rv 0) (rv 3)) tt

pub last-first : (x y z w : ℚ) → norm x y z w ≡ norm w y z x
unfolding same_q
last-first x y z w = ring_q (x ∷ y ∷ z ∷ w ∷ []) (norm_r (rv 0) (rv 1) (rv 2) (rv 3)) (norm_r (rv 3) (rv 1) (rv 2) (rv 0)) tt

-- N is above 0, and 1 / N at most 1 + 2 ^ -38
abbrev pub i_max : ℕ
i_max = 2 ^ 256 + 2 ^ 218

pub norm-pos : (n : ℚ) → Abs (n -q qn 1) n_err → T (not (leq n (qn 0)))
unfolding same_q den comb iv U
norm-pos n h =
    positive n (2 ^ 255) (lit< tt) (sub-≤q (iv (2 ^ 255)) n (by-nn (n ∷ []) [] tt ((rat (iv_f n_err) ⊕ (rv 0 ⊖ nat 1)) ∷ [])
    (h.1, tt) [] (hyp 0 ⊞ num 549755813887 1099511627775) (rv 0 ⊖ rat (iv_f (2 ^ 255))) tt))

pub inv-norm : (n : ℚ) → Abs (n -q qn 1) n_err → Abs (inv n) i_max
unfolding same_q den comb iv U
inv-norm n h =
    let p = norm-pos n h in
    let E : List (Rx × Rx) = (rv 0 ⊗ rv 1, nat 1) ∷ [] in
    let ρ : List ℚ = n ∷ inv n ∷ [] in
    let e : Eqs ρ E = (inv-ok n p, tt) in
    let H : List Rx = (rat (iv_f n_err) ⊕ (rv 0 ⊖ nat 1)) ∷ [] in (
      cancel-nn n (iv i_max -q inv n) p (by-nn ρ E e H (h.1, tt) ((nat 0 ⊖ nat 1) ∷ [])
          (num 274877906945 274877906943 ⊠ hyp 0 ⊞ num 824633720831 302231454903657293676543) (rv 0 ⊗ (rat (iv_f i_max) ⊖ rv 1)) tt),
      cancel-nn n (iv i_max +q inv n) p (by-nn ρ E e H (h.1, tt) (nat 1 ∷ [])
          (num 274877906945 274877906943 ⊠ hyp 0 ⊞ num 604462909808139221073919 302231454903657293676543) (rv 0 ⊗ (rat (iv_f i_max) ⊕ rv 1)) tt),
    )

-- ---- the sum of the doubles' squares
off : ℚ → ℚ → ℚ → ℚ → ℚ → ℚ → ℚ → ℚ → ℚ
off x y z w d e f g = d *q (qn 2 *q x +q d) +q e *q (qn 2 *q y +q e) +q f *q (qn 2 *q z +q f) +q g *q (qn 2 *q w +q g)

off_r : Rx → Rx → Rx → Rx → Rx → Rx → Rx → Rx → Rx
off_r x y z w d e f g = d ⊗ (nat 2 ⊗ x ⊕ d) ⊕ e ⊗ (nat 2 ⊗ y ⊕ e) ⊕ f ⊗ (nat 2 ⊗ z ⊕ f) ⊕ g ⊗ (nat 2 ⊗ w ⊕ g)

abbrev pub s_max : ℕ
s_max = 33 * 2 ^ 251

-- how far a normalised component is from s times the exact one
abbrev pub p_err : ℕ
p_err = 19 * 2 ^ 203

-- s² N(f) within 57 · 2 ^ -53 of 1, N(f) ≥ 1 - 2 ^ -39: s is at most 33 / 32
scale-top : (s n : ℚ) → 0≤ s → Abs (s *q s *q n -q qn 1) c_err → Abs (n -q qn 1) (2 ^ 217) → Abs s s_max
unfolding same_q den comb iv U
scale-top s n p h k =
    let np : T (not (leq n (qn 0))) = positive n (2 ^ 255) (lit< tt) (sub-≤q (iv (2 ^ 255)) n (by-nn (n ∷ []) [] tt
    ((rat (iv_f (2 ^ 217)) ⊕ (rv 0 ⊖ nat 1)) ∷ []) (k.1, tt) [] (hyp 0 ⊞ num 274877906943 549755813887) (rv 0 ⊖ rat (iv_f (2 ^ 255))) tt)) in
    let H : List Rx = (rat (iv_f c_err) ⊖ (rv 0 ⊗ rv 0 ⊗ rv 1 ⊖ nat 1)) ∷ (rat (iv_f (2 ^ 217)) ⊕ (rv 1 ⊖ nat 1)) ∷ [] in
    root-le s s_max tt p (cancel-nn n (iv s_max *q iv s_max -q s *q s) np
    (by-nn (s ∷ n ∷ []) [] tt H (h.0, (k.1, tt)) [] (hyp 0 ⊞ num 1089 1023 ⊠ hyp 1 ⊞ num 571746046426039 9007199254740991)
    (rv 1 ⊗ (rat (iv_f s_max) ⊗ rat (iv_f s_max) ⊖ rv 0 ⊗ rv 0)) tt))

module _ (f u : Quat) (x y z w : ℚ) (G : NearUnit f x y z w) (N : Normal f u) where
  x-top : Abs x g_max
  x-top = component x y z w G.size

  y-top : Abs y g_max
  y-top = component y z x w (subst (λ n. Abs (n -q qn 1) n_err) (round-names x y z w) G.size)

  z-top : Abs z g_max
  z-top = component z x y w (subst (λ n. Abs (n -q qn 1) n_err) (round-names x y z w ∙ round-names y z x w) G.size)

  w-top : Abs w g_max
  w-top = component w y z x (subst (λ n. Abs (n -q qn 1) n_err) (last-first x y z w) G.size)

  abbrev dx : ℚ
  dx = val f.x -q x

  abbrev dy : ℚ
  dy = val f.y -q y

  abbrev dz : ℚ
  dz = val f.z -q z

  abbrev dw : ℚ
  dw = val f.w -q w

  abbrev nf : ℚ
  nf = norm (val f.x) (val f.y) (val f.z) (val f.w)

  abbrev ng : ℚ
  ng = norm x y z w

  norm-off : nf ≡ ng +q off x y z w dx dy dz dw
  unfolding same_q off off_r
  norm-off =
      let X = rv 0 in let Y = rv 1 in let Z = rv 2 in let W = rv 3 in
      ring_q (x ∷ y ∷ z ∷ w ∷ val f.x ∷ val f.y ∷ val f.z ∷ val f.w ∷ []) (norm_r (rv 4) (rv 5) (rv 6) (rv 7))
      (norm_r X Y Z W ⊕ off_r X Y Z W (rv 4 ⊖ X) (rv 5 ⊖ Y) (rv 6 ⊖ Z) (rv 7 ⊖ W)) tt

  norm-near : Abs (nf -q qn 1) (2 ^ 217)
  unfolding same_q bounds off off_r
  norm-near =
      abs-eq ((ng -q qn 1) +q off x y z w dx dy dz dw) (nf -q qn 1) (2 ^ 217)
      (ring_q (ng ∷ off x y z w dx dy dz dw ∷ []) ((rv 0 ⊖ nat 1) ⊕ rv 1) (rv 0 ⊕ rv 1 ⊖ nat 1) tt ∙ ap (λ n. n -q qn 1) (sym norm-off))
      (bound ((ng -q qn 1) ∷ x ∷ y ∷ z ∷ w ∷ dx ∷ dy ∷ dz ∷ dw ∷ []) (n_err ∷ g_max ∷ g_max ∷ g_max ∷ g_max ∷ f_err ∷ f_err ∷ f_err ∷ f_err ∷ [])
      (G.size, (x-top, (y-top, (z-top, (w-top, (G.x-near, (G.y-near, (G.z-near, (G.w-near, tt)))))))))
      (rv 0 ⊕ off_r (rv 1) (rv 2) (rv 3) (rv 4) (rv 5) (rv 6) (rv 7) (rv 8)) (2 ^ 217) tt)

  abbrev s : ℚ
  s = N.c

  pub s-top : Abs s s_max
  s-top = scale-top s nf N.c-nn N.near-one norm-near

  -- a normalised component stands for s times the exact one
  pub exact-part : (p q : Float) (g : ℚ) → Is p (s *q val q) p_max u_err → Abs (val q -q g) f_err → Is p (s *q g) s_max p_err
  unfolding same_q U
  exact-part p q g h k =
      let m = abs-mul s (val q -q g) s_max f_err s-top k in (
        h.0,
        abs-mono (s *q g) (p_max + mul_up s_max f_err) s_max (leb→le (p_max + mul_up s_max f_err) s_max tt)
            (abs-eq (s *q val q -q s *q (val q -q g)) (s *q g) (p_max + mul_up s_max f_err) (ring_q (s ∷ val q ∷ g ∷ [])
            (rv 0 ⊗ rv 1 ⊖ rv 0 ⊗ (rv 1 ⊖ rv 2)) (rv 0 ⊗ rv 2) tt) (abs-sub (s *q val q) (s *q (val q -q g)) p_max (mul_up s_max f_err) h.1 m)),
        abs-mono (val p -q s *q g) (u_err + mul_up s_max f_err) p_err (leb→le (u_err + mul_up s_max f_err) p_err tt)
            (abs-eq ((val p -q s *q val q) +q s *q (val q -q g)) (val p -q s *q g) (u_err + mul_up s_max f_err)
            (ring_q (s ∷ val q ∷ g ∷ val p ∷ []) ((rv 3 ⊖ rv 0 ⊗ rv 1) ⊕ rv 0 ⊗ (rv 1 ⊖ rv 2)) (rv 3 ⊖ rv 0 ⊗ rv 2) tt)
            (abs-add (val p -q s *q val q) (s *q (val q -q g)) u_err (mul_up s_max f_err) h.2 m)),
      )

-- ---- the doubles: v + (u × v) (2 w) + (u × (u × v)) 2, first component
unfoldable pub turn_e : Fx
turn_e =
    let x = fv 0 in let y = fv 1 in let z = fv 2 in let w = fv 3 in let a = fv 4 in let b = fv 5 in let c = fv 6 in
    let two = fc (ratio 2 1) (whole 2 0) in
    let p = y *f c -f z *f b in let q = z *f a -f x *f c in let r = x *f b -f y *f a in
    a +f p *f (two *f w) +f (y *f r -f z *f q) *f two

turn-exact : (x y z w a b c : ℚ) → exact (x ∷ y ∷ z ∷ w ∷ a ∷ b ∷ c ∷ []) turn_e ≡ a +q twist x y z w a b c
unfolding turn_e same_q to_r plain
turn-exact x y z w a b c =
    sym (to_r-ok (x ∷ y ∷ z ∷ w ∷ a ∷ b ∷ c ∷ []) turn_e tt)
    ∙ ring_q (x ∷ y ∷ z ∷ w ∷ a ∷ b ∷ c ∷ []) (to_r turn_e) (rv 4 ⊕ twist_r (rv 0) (rv 1) (rv 2) (rv 3) (rv 4) (rv 5) (rv 6)) tt

-- ---- the slope is short: the squares of its parts sum to at most 4 m², for a, b, c of at most m, and r is at most 2 m
module _ (x y z w a b c r m : ℚ) (l : Level x y z w a b c r) (size : Abs (norm x y z w -q qn 1) n_err)
    (ha : 0≤ (m -q a) × 0≤ (m +q a)) (hb : 0≤ (m -q b) × 0≤ (m +q b)) (hc : 0≤ (m -q c) × 0≤ (m +q c)) where
  abbrev ρ : List ℚ
  ρ = x ∷ y ∷ z ∷ w ∷ a ∷ b ∷ c ∷ r ∷ m ∷ []

  abbrev E : List (Rx × Rx)
  E = (along_r (rv 0) (rv 1) (rv 2) (rv 3), nat 0) ∷ []

  abbrev H : List Rx
  H =
      (rv 8 ⊖ rv 4) ∷ (rv 8 ⊕ rv 4) ∷ (rv 8 ⊖ rv 5) ∷ (rv 8 ⊕ rv 5) ∷ (rv 8 ⊖ rv 6)
      ∷ (rv 8 ⊕ rv 6) ∷ (rat (iv_f n_err) ⊖ (norm_r (rv 0) (rv 1) (rv 2) (rv 3) ⊖ nat 1)) ∷ []

  inside : Nns ρ H
  unfolding iv
  inside = (ha.0, (ha.1, (hb.0, (hb.1, (hc.0, (hc.1, (size.0, tt)))))))

  -- N (3 m² - a² - b² - c²)
  abbrev room : Ct
  room = (hyp 0 ⊠ hyp 1 ⊞ hyp 2 ⊠ hyp 3 ⊞ hyp 4 ⊠ hyp 5) ⊠ (sqr (rv 0) ⊞ sqr (rv 1) ⊞ sqr (rv 2) ⊞ sqr (rv 3))

  abbrev times : Rx → Ct
  times k = sqr (k ⊗ rv 0) ⊞ sqr (k ⊗ rv 1) ⊞ sqr (k ⊗ rv 2) ⊞ sqr (k ⊗ rv 3)

  short : 0≤ (qn 4 *q (m *q m) -q norm (ev_r ρ slope_x) (ev_r ρ slope_y) (ev_r ρ slope_z) (ev_r ρ slope_w))
  unfolding same_q den comb U
  short =
      by-nn ρ E (l, tt) H inside (nat 2 ⊗ rv 7 ∷ []) (room ⊞ num 3 0 ⊠ sqr (rv 8) ⊠ hyp 6 ⊞ num 1099511627773 1099511627775 ⊠ sqr (rv 8) ⊞ times (rv 7))
      (nat 4 ⊗ (rv 8 ⊗ rv 8) ⊖ norm_r slope_x slope_y slope_z slope_w) tt

  turned-top : 0≤ ((m +q m) *q (m +q m) -q r *q r)
  unfolding same_q den comb
  turned-top =
      cancel-nn (norm x y z w) ((m +q m) *q (m +q m) -q r *q r) (norm-pos (norm x y z w) size)
      (by-nn ρ E (l, tt) H inside (nat 2 ⊗ rv 7 ∷ []) (room ⊞ times (rv 8) ⊞ sqr slope_x ⊞ sqr slope_y ⊞ sqr slope_z ⊞ sqr slope_w)
      (norm_r (rv 0) (rv 1) (rv 2) (rv 3) ⊗ ((rv 8 ⊕ rv 8) ⊗ (rv 8 ⊕ rv 8) ⊖ rv 7 ⊗ rv 7)) tt)

-- Cauchy's inequality: the squares of k, l, m, n sum to at most 4 b², and e, f, g, h are at most d
cauchy : (k l m n e f g h b d : ℚ) (K : ℕ) → T (leb 1 K) → 0≤ (iv K *q iv K -q qn 16 *q (b *q b) *q (d *q d)) → 0≤ (qn 4 *q (b *q b) -q norm k l m n)
    → 0≤ (d -q e) × 0≤ (d +q e) → 0≤ (d -q f) × 0≤ (d +q f) → 0≤ (d -q g) × 0≤ (d +q g) → 0≤ (d -q h) × 0≤ (d +q h)
    → Abs (k *q e +q l *q f +q m *q g +q n *q h) K
unfolding same_q den comb
cauchy k l m n e f g h b d K t u v he hf hg hh =
    let D = rv 9 in
    let H : List Rx = (rv 10 ⊗ rv 10 ⊖ nat 16 ⊗ (rv 8 ⊗ rv 8) ⊗ (D ⊗ D)) ∷ (nat 4 ⊗ (rv 8 ⊗ rv 8) ⊖ norm_r (rv 0) (rv 1) (rv 2) (rv 3))
    ∷ (D ⊖ rv 4) ∷ (D ⊕ rv 4) ∷ (D ⊖ rv 5) ∷ (D ⊕ rv 5) ∷ (D ⊖ rv 6) ∷ (D ⊕ rv 6) ∷ (D ⊖ rv 7) ∷ (D ⊕ rv 7) ∷ [] in
    let s : Rx = rv 0 ⊗ rv 4 ⊕ rv 1 ⊗ rv 5 ⊕ rv 2 ⊗ rv 6 ⊕ rv 3 ⊗ rv 7 in
    let x : ℕ → ℕ → ℕ → ℕ → Ct = λ i j p q. sqr (rv i ⊗ rv q ⊖ rv j ⊗ rv p) in
    root-abs (k *q e +q l *q f +q m *q g +q n *q h) K t
    (by-nn (k ∷ l ∷ m ∷ n ∷ e ∷ f ∷ g ∷ h ∷ b ∷ d ∷ iv K ∷ []) [] tt H (u, (v, (he.0, (he.1, (hf.0, (hf.1, (hg.0, (hg.1, (hh.0, (hh.1, tt)))))))))) []
    (hyp 0 ⊞ num 4 0 ⊠ sqr D ⊠ hyp 1 ⊞ (sqr (rv 0) ⊞ sqr (rv 1) ⊞ sqr (rv 2) ⊞ sqr (rv 3))
    ⊠ (hyp 2 ⊠ hyp 3 ⊞ hyp 4 ⊠ hyp 5 ⊞ hyp 6 ⊠ hyp 7 ⊞ hyp 8 ⊠ hyp 9) ⊞ x 0 1 4 5 ⊞ x 0 2 4 6 ⊞ x 0 3 4 7 ⊞ x 1 2 5 6 ⊞ x 1 3 5 7 ⊞ x 2 3 6 7)
    (rv 10 ⊗ rv 10 ⊖ s ⊗ s) tt)

-- ---- the test for v of at most M: the doubles are within E of the turned vector, N of that apart from their rounding
abbrev u_max : ℕ
u_max = s_max + p_err

turnβ : ℕ → List (ℕ × ℕ)
turnβ M = (u_max, 0) ∷ (u_max, 0) ∷ (u_max, 0) ∷ (u_max, 0) ∷ (M, 0) ∷ (M, 0) ∷ (M, 0) ∷ []

-- the slope's part along the rest
slope_top : ℕ → ℕ
slope_top M = mul_up (4 * M) p_err

slopes : ℕ → Bool
unfolding slope_top
slopes M = leb 1 (M + M) && (leb 1 (slope_top M) && leq (qn 0) (iv (slope_top M) *q iv (slope_top M) -q qn 16 *q (iv M *q iv M) *q (iv p_err *q iv p_err)))

lost_e : Rx
lost_e = nat 2 ⊗ rv 1 ⊗ rv 0 ⊕ twist_r (rv 2) (rv 3) (rv 4) (rv 5) (rv 6) (rv 7) (rv 8) ⊕ (rv 10 ⊖ norm_r (rv 2) (rv 3) (rv 4) (rv 5)) ⊗ (rv 9 ⊖ rv 6)

lostβ : ℕ → List ℕ
unfolding slope_top
lostβ M = slope_top M ∷ s_max ∷ p_err ∷ p_err ∷ p_err ∷ p_err ∷ M ∷ M ∷ M ∷ (M + M) ∷ unit_err ∷ []

unfoldable pub turns : ℕ → ℕ → ℕ → Bool
unfolding turnβ turn_e slopes slope_top lost_e lostβ chk round bounds
turns M N E = ok (chk (turnβ M) turn_e) && (slopes M && (bounds (lostβ M) lost_e N && leb (err (chk (turnβ M) turn_e) + N) E))

-- one component: i = 1 / N
pub turn_near : (M N E : ℕ) → T (turns M N E) → (i x y z w s : ℚ) (ux uy uz uw a b c : Float)
    → norm x y z w *q i ≡ qn 1 → Abs (norm x y z w -q qn 1) n_err → Abs s s_max
    → Is ux (s *q x) s_max p_err → Is uy (s *q y) s_max p_err → Is uz (s *q z) s_max p_err → Is uw (s *q w) s_max p_err
    → Abs (norm (val ux) (val uy) (val uz) (val uw) -q qn 1) unit_err → Input a M → Input b M → Input c M
    → Is (run (ux ∷ uy ∷ uz ∷ uw ∷ a ∷ b ∷ c ∷ []) turn_e) (turn_by i x y z w (val a) (val b) (val c)) (M + M) E
unfolding turns slopes same_q lost_e lostβ turnβ
turn_near M N E t i x y z w s ux uy uz uw a b c hi hn hs hx hy hz hw hu ha hb hc =
    let β = turnβ M in
    let K = slope_top M in
    let far = iv K *q iv K -q qn 16 *q (iv M *q iv M) *q (iv p_err *q iv p_err) in
    let t₁ = both (ok (chk β turn_e)) (slopes M && (bounds (lostβ M) lost_e N && leb (err (chk β turn_e) + N) E)) t in
    let t₂ = both (slopes M) (bounds (lostβ M) lost_e N && leb (err (chk β turn_e) + N) E) t₁.1 in
    let t₃ = both (bounds (lostβ M) lost_e N) (leb (err (chk β turn_e) + N) E) t₂.1 in
    let t₄ = both (leb 1 (M + M)) (leb 1 K && leq (qn 0) far) t₂.0 in
    let t₅ = both (leb 1 K) (leq (qn 0) far) t₄.1 in
    let in_top : (f : Float) (v : ℚ) → Is f v s_max p_err → T (finite f) × Abs (val f) u_max × Abs (val f -q val f) 0 =
    λ f v h. given f u_max (h.0, own (val f) v s_max p_err h.1 h.2) in
    let σ = val ux ∷ val uy ∷ val uz ∷ val uw ∷ val a ∷ val b ∷ val c ∷ [] in
    let R = sound (ux ∷ uy ∷ uz ∷ uw ∷ a ∷ b ∷ c ∷ []) σ β (
      in_top ux (s *q x) hx,
      (in_top uy (s *q y) hy, (in_top uz (s *q z) hz, (in_top uw (s *q w) hw, (given a M ha, (given b M hb, (given c M hc, tt)))))),
    ) turn_e
    (known σ turn_e (unfold turn_e free in tt)) t₁.0 in
    let v = val (run (ux ∷ uy ∷ uz ∷ uw ∷ a ∷ b ∷ c ∷ []) turn_e) in
    let r = turn_by i x y z w (val a) (val b) (val c) in
    let S = val a +q twist (val ux) (val uy) (val uz) (val uw) (val a) (val b) (val c) in
    let near = subst (λ q. Abs (v -q q) (err (chk β turn_e))) (turn-exact (val ux) (val uy) (val uz) (val uw) (val a) (val b) (val c)) R.2 in
    let l = level i x y z w (val a) (val b) (val c) hi in
    let top : Abs r (M + M) = root-abs r (M + M) t₄.0
    (subst (λ q. 0≤ (q *q q -q r *q r)) (sym (iv-add M M)) (turned-top x y z w (val a) (val b) (val c) r (iv M) l hn ha.1 hb.1 hc.1)) in
    let ρ = x ∷ y ∷ z ∷ w ∷ val a ∷ val b ∷ val c ∷ r ∷ [] in
    let e = val ux -q s *q x in
    let f = val uy -q s *q y in
    let g = val uz -q s *q z in
    let h = val uw -q s *q w in
    let steep = cauchy (ev_r ρ slope_x) (ev_r ρ slope_y) (ev_r ρ slope_z) (ev_r ρ slope_w) e f g h (iv M) (iv p_err) K t₅.0 t₅.1
    (short x y z w (val a) (val b) (val c) r (iv M) l hn ha.1 hb.1 hc.1) hx.2 hy.2 hz.2 hw.2 in
    let lost = abs-eq _ (S -q r) N (sym (apart x y z w (val a) (val b) (val c) r s (val ux) (val uy) (val uz) (val uw) l))
    (bound ((ev_r ρ slope_x *q e +q ev_r ρ slope_y *q f +q ev_r ρ slope_z *q g +q ev_r ρ slope_w *q h) ∷ s ∷ e ∷ f ∷ g ∷ h
    ∷ val a ∷ val b ∷ val c ∷ r ∷ (norm (val ux) (val uy) (val uz) (val uw) -q qn 1) ∷ []) (lostβ M)
    (steep, (hs, (hx.2, (hy.2, (hz.2, (hw.2, (ha.1, (hb.1, (hc.1, (top, (hu, tt))))))))))) lost_e N t₃.0) in (
      R.0,
      top,
      abs-mono (v -q r) (err (chk β turn_e) + N) E (leb→le (err (chk β turn_e) + N) E t₃.1)
          (abs-eq ((v -q S) +q (S -q r)) (v -q r) (err (chk β turn_e) + N) (ring_q (v ∷ S ∷ r ∷ []) ((rv 0 ⊖ rv 1) ⊕ (rv 1 ⊖ rv 2)) (rv 0 ⊖ rv 2) tt)
          (abs-add (v -q S) (S -q r) (err (chk β turn_e)) N near lost)),
    )
