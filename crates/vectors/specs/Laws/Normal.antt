-- `quat_try_normalize_of`: each normalised component is near c times the quaternion's own, for
-- one c that is not below 0, and c² times the sum of its squares is near 1.
-- c is 1 / (m l): m the largest magnitude, l the length of the quaternion divided by m.
use Rattle.std.specs.Prelude.{Some}
use Rattle.std.specs.Prelude.{◌≡◌, refl, not, ◌&&◌, ℕ, ◌+◌, ◌*◌, ◌^◌, T, leb, Float}
use Rattle.std.proofs.Common.{sym, leb→le}
use Rattle.std.proofs.Math.Path.{subst}
use mathlib.Core.List.{List, [], ◌∷◌}
use mathlib.Core.Quot
use Rattle.std.specs.Float.{binary64}
use Rattle.std.specs.Float.Ieee.{fits, round, div}
use Rattle.std.specs.Float.Ieee.Fits.{div-fits}
use Rattle.std.specs.Float.Ieee.Scale.{finite}
use Rattle.exact.specs.Rat.{ℚ, qn, leq, ◌+q◌, ◌-q◌, ◌*q◌, negq, ◌≤q◌, ≤q-trans, sub-≤q, 0≤-mul, inv, inv-ok}
use Rattle.exact.specs.Abs.{U, iv, 0≤, Abs, abs-eq, abs-mono}
use Rattle.exact.specs.RingQ.{Rx, rv, ◌⊕◌, ◌⊖◌, ◌⊗◌, same_q, ring_q}
use Rattle.exact.specs.Cert.{nat, comb, den, by-nn, sqr, ◌⊞◌, bounds, bound}
use Rattle.exact.specs.Val.{val, rnd, huge, div-err}
use Rattle.exact.specs.Check.{Fx, fv, fdiv, mag, err, chk, sound, own}
use Rattle.exact.specs.Given.{given}
use Rattle.exact.specs.Hypot.{hyp-fits}
use Rattle.arith.specs.Real.{abs_of, max_of, ratio, is_finite}
use Rattle.arith.specs.Hypot.{hypot_of}
use Rattle.arith.specs.Laws.Magnitude.{abs-nn, abs-finite, abs-square, max-first, max-second}
use Rattle.vectors.specs.declared.quaternion.Quat.{Quat}
use Rattle.vectors.specs.Quaternion.{quat_largest_of, quat_div_of, quat_length_of, quat_try_normalize_of}
use Rattle.vectors.specs.Laws.Tests.{finite-of, both, above_zero, abs-under, max-keeps}
use Rattle.vectors.specs.Laws.Length.{sides, side, Long, longer, hypot-close}
use Rattle.vectors.specs.Laws.Fractions.{norm, norm_r, inv-nn, share, l_min, p_max, low-pos, norm-one, Sums, lengths, c_err, norms, length-low, factor}
use Rattle.vectors.specs.Laws.Options.{normalized}

-- a double, the number that it stands for, a bound on that and on the distance
abbrev pub Is : Float → ℚ → ℕ → ℕ → Type 0
Is f x m e = T (finite f) × Abs x m × Abs (val f -q x) e

-- ---- the largest magnitude
module _ (x y z w : Float) (fx : T (finite x)) (fy : T (finite y)) (fz : T (finite z)) (fw : T (finite w)) where
  abbrev xy : Float
  xy = max_of (abs_of x) (abs_of y)

  abbrev xyz : Float
  xyz = max_of xy (abs_of z)

  abbrev m : Float
  m = max_of xyz (abs_of w)

  f-xy : T (finite xy)
  f-xy = max-keeps (λ (a : Float). T (finite a)) (abs_of x) (abs_of y) (abs-finite x fx) (abs-finite y fy)

  f-xyz : T (finite xyz)
  f-xyz = max-keeps (λ (a : Float). T (finite a)) xy (abs_of z) f-xy (abs-finite z fz)

  f-m : T (finite m)
  f-m = max-keeps (λ (a : Float). T (finite a)) xyz (abs_of w) f-xyz (abs-finite w fw)

  m-nn : 0≤ (val m)
  m-nn =
      max-keeps (λ (a : Float). 0≤ (val a)) xyz (abs_of w) (max-keeps (λ (a : Float). 0≤ (val a)) xy (abs_of z)
      (max-keeps (λ (a : Float). 0≤ (val a)) (abs_of x) (abs_of y) (abs-nn x) (abs-nn y)) (abs-nn z)) (abs-nn w)

  xyz-le : val xyz ≤q val m
  xyz-le = max-first xyz (abs_of w) f-xyz (abs-finite w fw)

  xy-le : val xy ≤q val m
  xy-le = ≤q-trans (val xy) (val xyz) (val m) (max-first xy (abs_of z) f-xy (abs-finite z fz)) xyz-le

  x-le : val (abs_of x) ≤q val m
  x-le = ≤q-trans (val (abs_of x)) (val xy) (val m) (max-first (abs_of x) (abs_of y) (abs-finite x fx) (abs-finite y fy)) xy-le

  y-le : val (abs_of y) ≤q val m
  y-le = ≤q-trans (val (abs_of y)) (val xy) (val m) (max-second (abs_of x) (abs_of y) (abs-finite x fx) (abs-finite y fy)) xy-le

  z-le : val (abs_of z) ≤q val m
  z-le = ≤q-trans (val (abs_of z)) (val xyz) (val m) (max-second xy (abs_of z) f-xy (abs-finite z fz)) xyz-le

  w_le : val (abs_of w) ≤q val m
  w_le = max-second xyz (abs_of w) f-xyz (abs-finite w fw)

  -- its square is one of the four
  abbrev Under : Float → Type 0
  Under a = 0≤ (norm (val x) (val y) (val z) (val w) -q val a *q val a)

  big : Under m
  unfolding same_q den comb
  big =
      let ρ = val x ∷ val y ∷ val z ∷ val w ∷ [] in
      let n = rv 0 ⊗ rv 0 ⊕ rv 1 ⊗ rv 1 ⊕ rv 2 ⊗ rv 2 ⊕ rv 3 ⊗ rv 3 in
      let at : (a : Float) → 0≤ (norm (val x) (val y) (val z) (val w) -q val a *q val a) → Under (abs_of a) =
      λ a h. subst (λ s. 0≤ (norm (val x) (val y) (val z) (val w) -q s)) (sym (abs-square a)) h in
      max-keeps Under xyz (abs_of w)
      (max-keeps Under xy (abs_of z)
      (max-keeps Under (abs_of x) (abs_of y)
      (at x (by-nn ρ [] tt [] tt [] (sqr (rv 1) ⊞ sqr (rv 2) ⊞ sqr (rv 3)) (n ⊖ rv 0 ⊗ rv 0) tt))
      (at y (by-nn ρ [] tt [] tt [] (sqr (rv 0) ⊞ sqr (rv 2) ⊞ sqr (rv 3)) (n ⊖ rv 1 ⊗ rv 1) tt)))
      (at z (by-nn ρ [] tt [] tt [] (sqr (rv 0) ⊞ sqr (rv 1) ⊞ sqr (rv 3)) (n ⊖ rv 2 ⊗ rv 2) tt)))
      (at w (by-nn ρ [] tt [] tt [] (sqr (rv 0) ⊞ sqr (rv 1) ⊞ sqr (rv 2)) (n ⊖ rv 3 ⊗ rv 3) tt))

zero_val : val (ratio 0 1) ≡ qn 0
unfolding round
zero_val = Quot.sound refl

zero-finite : T (finite (ratio 0 1))
unfolding round
zero-finite = tt

-- ---- a component divided by m
part : (q m : Float) → T (finite q) → T (finite m) → T (not (leq (val m) (qn 0)))
    → val (abs_of q) ≤q val m → Is (div binary64 q m) (val q *q inv (val m)) (2 ^ 256) (rnd (2 ^ 256))
unfolding U
part q m fq fm pm h =
    let a = abs-under q (val m) h in
    let Q = share (val m) (val q) pm a.0 a.1 in
    let D = div-err q m (2 ^ 256) fq fm pm Q (leb→le (2 ^ 256) (U * huge) tt) in
    (D.0, Q, D.1)

abbrev one⁺ : ℕ
one⁺ = 2 ^ 256 + 2 ^ 206

part-top : (s : Float) (x : ℚ) → Is s x (2 ^ 256) (rnd (2 ^ 256)) → Abs (val s) one⁺
part-top s x h =
    abs-mono (val s) (2 ^ 256 + rnd (2 ^ 256)) one⁺ (leb→le (2 ^ 256 + rnd (2 ^ 256)) one⁺ tt) (own (val s) x (2 ^ 256) (rnd (2 ^ 256)) h.1 h.2)

-- ---- the length of that: at most 33 / 16, its square in proportion
fits-xy : T (sides one⁺ one⁺ one⁺ (2 ^ 207) (91 * 2 ^ 250))
unfolding sides hyp-fits leq ◌+q◌ ◌*q◌ iv U negq
fits-xy = tt

fits-xyz : T (sides (91 * 2 ^ 250) one⁺ (91 * 2 ^ 250) (2 ^ 208) (7 * 2 ^ 254))
unfolding sides hyp-fits leq ◌+q◌ ◌*q◌ iv U negq
fits-xyz = tt

fits-xyzw : T (sides (7 * 2 ^ 254) one⁺ (7 * 2 ^ 254) (3 * 2 ^ 207) (33 * 2 ^ 252))
unfolding sides hyp-fits leq ◌+q◌ ◌*q◌ iv U negq
fits-xyzw = tt

record LongQuat (s : Quat) : Type 0 where
  long : Long (quat_length_of s) (norm (val s.x) (val s.y) (val s.z) (val s.w)) (6 * 2 ^ 207) (33 * 2 ^ 252)
  near : Sums (val (quat_length_of s) *q val (quat_length_of s)) (norm (val s.x) (val s.y) (val s.z) (val s.w))

quat-length : (s : Quat) → T (fits binary64 s.x) → T (fits binary64 s.y) → T (fits binary64 s.z)
    → T (fits binary64 s.w) → T (finite s.x) → T (finite s.y) → T (finite s.z) → T (finite s.w)
    → Abs (val s.x) one⁺ → Abs (val s.y) one⁺ → Abs (val s.z) one⁺ → Abs (val s.w) one⁺ → LongQuat s
quat-length s tx ty tz tw fx fy fz fw hx hy hz hw =
    let h = hypot_of s.x s.y in
    let k = hypot_of h s.z in
    let a = longer one⁺ one⁺ one⁺ (2 ^ 207) (91 * 2 ^ 250) 0 fits-xy s.x s.y (val s.x *q val s.x) (side s.x one⁺ tx fx hx) ty fy hy in
    let b = longer (91 * 2 ^ 250) one⁺ (91 * 2 ^ 250) (2 ^ 208) (7 * 2 ^ 254) (2 ^ 207 + 0) fits-xyz h s.z _ a.side tz fz hz in
    let c = longer (7 * 2 ^ 254) one⁺ (7 * 2 ^ 254) (3 * 2 ^ 207) (33 * 2 ^ 252) (2 ^ 208 + (2 ^ 207 + 0)) fits-xyzw k s.w _ b.side tw fw hw in
    let two : (f : Float) (B : ℕ) → T (leb B (2 ^ 257)) → Abs (val f) B → Abs (val f) (2 ^ 257) =
    λ f B t. abs-mono (val f) B (2 ^ 257) (leb→le B (2 ^ 257) t) in
    record {
      long = c;
      near = lengths (val s.x) (val s.y) (val s.z) (val s.w) (val h) (val k) (val (quat_length_of s))
          (hypot-close s.x s.y tx ty fx fy a.side.fine (two s.x one⁺ tt hx) (two s.y one⁺ tt hy))
          (hypot-close h s.z a.side.fit tz a.side.fine fz b.side.fine (two h (91 * 2 ^ 250) tt a.side.top) (two s.z one⁺ tt hz))
          (hypot-close k s.w b.side.fit tw b.side.fine fw c.side.fine (two k (7 * 2 ^ 254) tt b.side.top) (two s.w one⁺ tt hw));
    }

-- ---- a component divided by l
abbrev pub u_err : ℕ
u_err = 9 * 2 ^ 201

unit_e : Fx
unit_e = fdiv l_min (fv 0) (fv 1)

unitβ : List (ℕ × ℕ)
unitβ = (2 ^ 256, rnd (2 ^ 256)) ∷ (33 * 2 ^ 252, 0) ∷ []

unit : (s l : Float) (q k : ℚ) → Is s (q *q k) (2 ^ 256) (rnd (2 ^ 256)) → T (finite l) → Abs (val l) (33 * 2 ^ 252)
    → 0≤ (val l -q iv l_min) → Is (div binary64 s l) (k *q inv (val l) *q q) p_max u_err
unfolding unit_e unitβ chk same_q
unit s l q k h fl tl lo =
    let S = sound (s ∷ l ∷ []) (q *q k ∷ val l ∷ []) unitβ (h, (given l (33 * 2 ^ 252) (fl, tl), tt)) unit_e (tt, tt, sub-≤q (iv l_min) (val l) lo) tt in
    let e = ring_q (q ∷ k ∷ inv (val l) ∷ []) (rv 0 ⊗ rv 1 ⊗ rv 2) (rv 1 ⊗ rv 2 ⊗ rv 0) tt in
    subst (λ v. Is (div binary64 s l) v p_max u_err) e (
      S.0,
      abs-mono (q *q k *q inv (val l)) (mag (chk unitβ unit_e)) p_max (leb→le (mag (chk unitβ unit_e)) p_max tt) S.1,
      abs-mono (val (div binary64 s l) -q q *q k *q inv (val l)) (err (chk unitβ unit_e)) u_err (leb→le (err (chk unitβ unit_e)) u_err tt) S.2,
    )

-- ---- the squares of the normalised components sum to nearly 1
abbrev pub unit_err : ℕ
unit_err = 76 * 2 ^ 203

sized : (c x y z w X Y Z W : ℚ) → Abs (c *q c *q norm x y z w -q qn 1) c_err → Abs (c *q x) p_max → Abs (c *q y) p_max → Abs (c *q z) p_max
    → Abs (c *q w) p_max → Abs (X -q c *q x) u_err → Abs (Y -q c *q y) u_err → Abs (Z -q c *q z) u_err → Abs (W -q c *q w) u_err
    → Abs (norm X Y Z W -q qn 1) unit_err
unfolding same_q bounds
sized c x y z w X Y Z W n hx hy hz hw ex ey ez ew =
    let o : ℚ → ℚ → ℚ = λ e q. e *q (qn 2 *q q +q e) in
    let O : Rx → Rx → Rx = λ e q. e ⊗ (nat 2 ⊗ q ⊕ e) in
    let d : Rx → Rx → Rx = λ Q q. O (Q ⊖ rv 0 ⊗ q) (rv 0 ⊗ q) in
    let one = c *q c *q norm x y z w -q qn 1 in
    let one_r = rv 0 ⊗ rv 0 ⊗ norm_r (rv 1) (rv 2) (rv 3) (rv 4) ⊖ nat 1 in
    let dx = X -q c *q x in
    let dy = Y -q c *q y in
    let dz = Z -q c *q z in
    let dw = W -q c *q w in
    abs-eq (one +q (o dx (c *q x) +q o dy (c *q y) +q o dz (c *q z) +q o dw (c *q w))) (norm X Y Z W -q qn 1) unit_err
    (ring_q (c ∷ x ∷ y ∷ z ∷ w ∷ X ∷ Y ∷ Z ∷ W ∷ [])
    (one_r ⊕ (d (rv 5) (rv 1) ⊕ d (rv 6) (rv 2) ⊕ d (rv 7) (rv 3) ⊕ d (rv 8) (rv 4))) (norm_r (rv 5) (rv 6) (rv 7) (rv 8) ⊖ nat 1) tt)
    (bound (one ∷ dx ∷ dy ∷ dz ∷ dw ∷ c *q x ∷ c *q y ∷ c *q z ∷ c *q w ∷ [])
    (c_err ∷ u_err ∷ u_err ∷ u_err ∷ u_err ∷ p_max ∷ p_max ∷ p_max ∷ p_max ∷ [])
    (n, (ex, (ey, (ez, (ew, (hx, (hy, (hz, (hw, tt)))))))))
    (rv 0 ⊕ (O (rv 1) (rv 5) ⊕ O (rv 2) (rv 6) ⊕ O (rv 3) (rv 7) ⊕ O (rv 4) (rv 8))) unit_err tt)

pub record Normal (f u : Quat) : Type 0 where
  pub c : ℚ
  pub c-nn : 0≤ c
  pub near-one : Abs (c *q c *q norm (val f.x) (val f.y) (val f.z) (val f.w) -q qn 1) c_err
  pub x : Is u.x (c *q val f.x) p_max u_err
  pub y : Is u.y (c *q val f.y) p_max u_err
  pub z : Is u.z (c *q val f.z) p_max u_err
  pub w : Is u.w (c *q val f.w) p_max u_err
  pub size : Abs (norm (val u.x) (val u.y) (val u.z) (val u.w) -q qn 1) unit_err

pub normal : (f u : Quat) → quat_try_normalize_of f ≡ Some u → Normal f u
normal f u e =
    let n = normalized f u e in
    let g = both (is_finite f.x && is_finite f.y && is_finite f.z) (is_finite f.w) n.fine in
    let g₂ = both (is_finite f.x && is_finite f.y) (is_finite f.z) g.0 in
    let g₃ = both (is_finite f.x) (is_finite f.y) g₂.0 in
    let fx = finite-of f.x g₃.0 in
    let fy = finite-of f.y g₃.1 in
    let fz = finite-of f.z g₂.1 in
    let fw = finite-of f.w g.1 in
    let M = quat_largest_of f in
    let s = quat_div_of f M in
    let l = quat_length_of s in
    let fm = f-m f.x f.y f.z f.w fx fy fz fw in
    let pm = above_zero M (ratio 0 1) zero_val fm zero-finite (m-nn f.x f.y f.z f.w fx fy fz fw) n.scale in
    let k = inv (val M) in
    let p = inv (val l) in
    let X = part f.x M fx fm pm (x-le f.x f.y f.z f.w fx fy fz fw) in
    let Y = part f.y M fy fm pm (y-le f.x f.y f.z f.w fx fy fz fw) in
    let Z = part f.z M fz fm pm (z-le f.x f.y f.z f.w fx fy fz fw) in
    let W = part f.w M fw fm pm (w_le f.x f.y f.z f.w fx fy fz fw) in
    let L = quat-length s (div-fits binary64 f.x M) (div-fits binary64 f.y M)
    (div-fits binary64 f.z M) (div-fits binary64 f.w M) X.0 Y.0 Z.0 W.0
    (part-top s.x (val f.x *q k) X) (part-top s.y (val f.y *q k) Y) (part-top s.z (val f.z *q k) Z) (part-top s.w (val f.w *q k) W) in
    let n1 = norm-one (val M) k (val f.x) (val f.y) (val f.z) (val f.w) (inv-ok (val M) pm) (big f.x f.y f.z f.w fx fy fz fw) in
    let d = norms (val l) (val s.x) (val s.y) (val s.z) (val s.w) (val f.x *q k) (val f.y *q k)
    (val f.z *q k) (val f.w *q k) X.1 Y.1 Z.1 W.1 X.2 Y.2 Z.2 W.2 L.near n1 in
    let lo = length-low (val l) (norm (val f.x *q k) (val f.y *q k) (val f.z *q k) (val f.w *q k)) L.long.not_neg d n1 in
    let lp = low-pos (val l) lo in
    let fl = L.long.side.fine in
    let tl = L.long.side.top in
    let c = k *q p in
    let one = factor (val f.x) (val f.y) (val f.z) (val f.w) k p (val l) (inv-ok (val l) lp) d in
    let ux = unit s.x l (val f.x) k X fl tl lo in
    let uy = unit s.y l (val f.y) k Y fl tl lo in
    let uz = unit s.z l (val f.z) k Z fl tl lo in
    let uw = unit s.w l (val f.w) k W fl tl lo in
    subst (Normal f) n.is (record {
      c = c;
      c-nn = 0≤-mul k p (inv-nn (val M) pm) (inv-nn (val l) lp);
      near-one = one;
      x = ux;
      y = uy;
      z = uz;
      w = uw;
      size = sized c (val f.x) (val f.y) (val f.z) (val f.w) (val (div binary64 s.x l)) (val (div binary64 s.y l))
          (val (div binary64 s.z l)) (val (div binary64 s.w l)) one ux.1 uy.1 uz.1 uw.1 ux.2 uy.2 uz.2 uw.2;
    })
