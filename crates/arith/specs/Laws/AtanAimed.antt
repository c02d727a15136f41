-- `angle_of` at finite x and y of any size and sign, not both 0: the point over its larger magnitude is `Seen` under the angle.
-- Magnitudes and signs of doubles.
use Rattle.std.specs.Prelude.{◌≡◌, refl, [], ◌∷◌, Bool, true, false, not, cond, ◌&&◌, ℕ, ◌*◌, ◌^◌, T, eqb, Float}
use Rattle.std.proofs.Common.{sym, ap, ◌∙◌, subst, arith, lit≤, T_not}
use mathlib.Core.Quot.{sound}
use Rattle.std.proofs.Math.Dec.{not_T}
use Rattle.std.specs.Float.{nan, inf, fin, binary64}
use Rattle.std.specs.Float.Ieee.{round, neg, sub, div, lt, eq, level, up, down}
use Rattle.std.specs.Float.Ieee.Fits.{down_pos, eq→eqb, and_i, and_l, and_r}
use Rattle.std.specs.Float.Ieee.Scale.{finite}
use Rattle.exact.specs.Rat.{ℚ, qn, whole, leq, ◌+q◌, ◌-q◌, ◌*q◌, negq, neg-zero, ◌≤q◌, mk-≤, inv, inv-ok, sub-≤q, ≤q-antisymm, ≤q-trans}
use Rattle.exact.specs.Ring.{var, con, ◌:+◌, ◌:-◌, ◌:*◌, ng, same, ring}
use Rattle.exact.specs.RingQ.{rv, ◌⊕◌, ◌⊖◌, ◌⊗◌, same_q}
use Rattle.exact.specs.Cert.{nat, comb, by-eqs, by-nn, sqr, num, den}
use Rattle.exact.specs.Abs.{0≤, Abs, abs_neg}
use Rattle.exact.specs.Val.{val, sg_f}
use Rattle.exact.specs.Compare.{lt_val}
use Rattle.arith.specs.Real.{ratio, abs_of}
use Rattle.arith.specs.Angle.{PI, octant, quadrant, facing, angle_of}
use Rattle.arith.specs.Laws.Magnitude.{abs-finite, abs-nn, lt_yes, lt_no}
use Rattle.arith.specs.Laws.AtanTurn.{v_top, w_top, u_top}
use Rattle.arith.specs.Laws.AtanOctant.{Seen, unit, share, octant-near}
use Rattle.arith.specs.Laws.AtanSeen.{seen-less, seen-quarter, seen-half, seen-minus}

-- ---- a point of any size: m is the larger magnitude, X and Y the point over it
pub record Aimed (E G B : ℕ) (x y : ℚ) (v : Float) : Type 0 where
  pub m : ℚ
  pub X : ℚ
  pub Y : ℚ
  pub m-pos : T (not (leq m (qn 0)))
  pub m-less : 0≤ (x *q x +q y *q y -q m *q m)
  pub x-is : x ≡ m *q X
  pub y-is : y ≡ m *q Y
  pub X-unit : Abs X (2 ^ 256)
  pub Y-unit : Abs Y (2 ^ 256)
  pub seen : Seen E G B X Y v

-- X or Y is 1
more : (m b : ℚ) → 0≤ (m *q m +q b *q b -q m *q m)
unfolding same_q den comb
more m b = by-nn (m ∷ b ∷ []) [] tt [] tt [] (sqr (rv 1)) (rv 0 ⊗ rv 0 ⊕ rv 1 ⊗ rv 1 ⊖ rv 0 ⊗ rv 0) tt

more-second : (m b : ℚ) → 0≤ (b *q b +q m *q m -q m *q m)
unfolding same_q den comb
more-second m b = by-nn (m ∷ b ∷ []) [] tt [] tt [] (sqr (rv 1)) (rv 1 ⊗ rv 1 ⊕ rv 0 ⊗ rv 0 ⊖ rv 0 ⊗ rv 0) tt

back : (a b : ℚ) → T (not (leq a (qn 0))) → b ≡ a *q (b *q inv a)
unfolding same_q comb
back a b p = by-eqs (a ∷ b ∷ inv a ∷ []) ((rv 0 ⊗ rv 2, nat 1) ∷ []) (inv-ok a p, tt) ((nat 0 ⊖ rv 1) ∷ []) (rv 1) (rv 0 ⊗ (rv 1 ⊗ rv 2)) tt

times-one : (a : ℚ) → a ≡ a *q qn 1
unfolding same
times-one a = ring (a ∷ []) (var 0) (var 0 :* con 1) tt

one_unit : Abs (qn 1) (2 ^ 256)
unfolding same_q den comb
one_unit = unit (qn 1) (by-nn [] [] tt [] tt [] (num 1 0) (nat 1) tt) (by-nn [] [] tt [] tt [] (num 0 0) (nat 1 ⊖ nat 1) tt)

-- ---- the first quadrant
module _ (a b : Float) (fa : T (finite a)) (fb : T (finite b)) (p : T (not (leq (val a) (qn 0)))) (n : 0≤ (val b)) (l : val b ≤q val a) where
  -- x = a, y = b
  aimed-flat : Aimed (2 ^ 212) (2 ^ 253) w_top (val a) (val b) (octant (div binary64 b a))
  aimed-flat =
      let t = val b *q inv (val a) in let v = octant (div binary64 b a) in
      record {
        m = val a;
        X = qn 1;
        Y = t;
        m-pos = p;
        m-less = more (val a) (val b);
        x-is = times-one (val a);
        y-is = back (val a) (val b) p;
        X-unit = one_unit;
        Y-unit = share (val a) (val b) p n l;
        seen = seen-less (2 ^ 211) (2 ^ 254) v_top (2 ^ 212) (2 ^ 253) w_top (qn 1) t v (lit≤ tt) (lit≤ tt) (lit≤ tt) (octant-near a b fa fb p n l);
      }

  -- x = b, y = a
  aimed-steep : Aimed (2 ^ 212) (2 ^ 253) w_top (val b) (val a) (sub binary64 (div binary64 PI (ratio 2 1)) (octant (div binary64 b a)))
  aimed-steep =
      let t = val b *q inv (val a) in
      record {
        m = val a;
        X = t;
        Y = qn 1;
        m-pos = p;
        m-less = more-second (val a) (val b);
        x-is = back (val a) (val b) p;
        y-is = times-one (val a);
        X-unit = share (val a) (val b) p n l;
        Y-unit = one_unit;
        seen = seen-quarter (qn 1) t (octant (div binary64 b a)) one_unit (share (val a) (val b) p n l) (octant-near a b fa fb p n l);
      }

aimed-quadrant : (ay ax : Float) → T (finite ay) → T (finite ax) → 0≤ (val ay) → 0≤ (val ax)
    → T (not (leq (val ax) (qn 0) && leq (val ay) (qn 0))) → Aimed (2 ^ 212) (2 ^ 253) w_top (val ax) (val ay) (quadrant ay ax)
unfolding quadrant
aimed-quadrant ay ax fy fx ny nx some = go (lt ax ay) refl
  where
    -- the larger one is above 0
    y-pos : T (not (leq (val ay) (val ax))) → T (not (leq (val ay) (qn 0)))
    y-pos t = not_T (leq (val ay) (qn 0)) (λ z. T_not (leq (val ay) (val ax)) t (≤q-trans (val ay) (qn 0) (val ax) z nx))

    x_pos : val ay ≤q val ax → T (not (leq (val ax) (qn 0)))
    x_pos h =
        not_T (leq (val ax) (qn 0)) (λ z. T_not (leq (val ax) (qn 0) && leq (val ay) (qn 0)) some
        (and_i (leq (val ax) (qn 0)) (leq (val ay) (qn 0)) z (≤q-trans (val ay) (val ax) (qn 0) h z)))

    go : (b : Bool) → lt ax ay ≡ b → Aimed (2 ^ 212) (2 ^ 253) w_top (val ax) (val ay)
        (cond b (sub binary64 (div binary64 PI (ratio 2 1)) (octant (div binary64 ax ay))) (octant (div binary64 ay ax)))
    go true e = aimed-steep ay ax fy fx (y-pos (subst T (sym e ∙ lt_val ax ay fx fy) tt)) nx (lt_yes ax ay fx fy e)
    go false e = let h = lt_no ax ay fx fy e in aimed-flat ax ay fx fy (x_pos h) ny h

-- ---- magnitudes and signs
zero_val : val (ratio 0 1) ≡ qn 0
unfolding round
zero_val = sound refl

-- x < 0, and not
below-zero : (x : Float) → T (finite x) → lt x (ratio 0 1) ≡ true → T (not (leq (qn 0) (val x)))
unfolding round
below-zero x p e = subst (λ z. T (not (leq z (val x)))) zero_val (subst T (sym e ∙ lt_val x (ratio 0 1) p tt) tt)

not-below-zero : (x : Float) → T (finite x) → lt x (ratio 0 1) ≡ false → 0≤ (val x)
unfolding round
not-below-zero x p e = subst (λ z. z ≤q val x) zero_val (lt_no x (ratio 0 1) p tt e)

minus-zero : (a : ℚ) → 0≤ a → 0≤ (negq a) → negq a ≡ a
unfolding same
minus-zero a h k =
    let l : a ≤q qn 0 = sub-≤q a (qn 0) (subst 0≤ (ring (a ∷ []) (ng (var 0)) (con 0 :- var 0) tt) k) in
    let z : a ≡ qn 0 = ≤q-antisymm a (qn 0) l h in
    ap negq z ∙ neg-zero ∙ sym z

-- x is its magnitude, or the opposite of it where x < 0
signed : (x : Float) → T (finite x) → (b : Bool) → lt x (ratio 0 1) ≡ b → val x ≡ cond b (negq (val (abs_of x))) (val (abs_of x))
unfolding abs_of negq
signed nan p b e = absurd p
signed (inf s) p b e = absurd p
signed (fin false m k) p true e = absurd (T_not (leq (qn 0) (val (fin false m k))) (below-zero (fin false m k) p e) (abs-nn (fin false m k)))
signed (fin false m k) p false e = refl
signed (fin true m k) p true e = refl
signed (fin true m k) p false e = minus-zero (val (fin false m k)) (abs-nn (fin false m k)) (not-below-zero (fin true m k) p e)

minus-times : (m X : ℚ) → negq (m *q X) ≡ m *q negq X
unfolding same
minus-times m X = ring (m ∷ X ∷ []) (ng (var 0 :* var 1)) (var 0 :* ng (var 1)) tt

-- PI - v where x < 0
aimed-left : (x y : ℚ) (v : Float) → Aimed (2 ^ 212) (2 ^ 253) w_top x y v → Aimed (2 ^ 215) (2 ^ 252) u_top (negq x) y (sub binary64 PI v)
unfolding same
aimed-left x y v a =
    record {
      m = a.m;
      X = negq a.X;
      Y = a.Y;
      m-pos = a.m-pos;
      m-less = subst (λ z. 0≤ (z -q a.m *q a.m))
          (ring (x ∷ (y *q y) ∷ []) (var 0 :* var 0 :+ var 1) (ng (var 0) :* ng (var 0) :+ var 1) tt) a.m-less;
      x-is = ap negq a.x-is ∙ minus-times a.m a.X;
      y-is = a.y-is;
      X-unit = abs_neg a.X (2 ^ 256) a.X-unit;
      Y-unit = a.Y-unit;
      seen = seen-half a.X a.Y v a.X-unit a.Y-unit a.seen;
    }

aimed-right : (x y : ℚ) (v : Float) → Aimed (2 ^ 212) (2 ^ 253) w_top x y v → Aimed (2 ^ 215) (2 ^ 252) u_top x y v
aimed-right x y v a =
    record {
      m = a.m;
      X = a.X;
      Y = a.Y;
      m-pos = a.m-pos;
      m-less = a.m-less;
      x-is = a.x-is;
      y-is = a.y-is;
      X-unit = a.X-unit;
      Y-unit = a.Y-unit;
      seen = seen-less (2 ^ 212) (2 ^ 253) w_top (2 ^ 215) (2 ^ 252) u_top a.X a.Y v (lit≤ tt) (lit≤ tt) (lit≤ tt) a.seen;
    }

-- -v where y < 0
aimed-down : (x y : ℚ) (v : Float) → Aimed (2 ^ 215) (2 ^ 252) u_top x y v → Aimed (2 ^ 215) (2 ^ 252) u_top x (negq y) (neg v)
unfolding same
aimed-down x y v a =
    record {
      m = a.m;
      X = a.X;
      Y = negq a.Y;
      m-pos = a.m-pos;
      m-less = subst (λ z. 0≤ (z -q a.m *q a.m))
          (ring (y ∷ (x *q x) ∷ []) (var 1 :+ var 0 :* var 0) (var 1 :+ ng (var 0) :* ng (var 0)) tt) a.m-less;
      x-is = a.x-is;
      y-is = ap negq a.y-is ∙ minus-times a.m a.Y;
      X-unit = a.X-unit;
      Y-unit = abs_neg a.Y (2 ^ 256) a.Y-unit;
      seen = seen-minus (2 ^ 215) (2 ^ 252) u_top a.X a.Y v a.seen;
    }

aimed-facing : (x : Float) (y : ℚ) (v : Float) → T (finite x) → Aimed (2 ^ 212) (2 ^ 253) w_top (val (abs_of x)) y v
    → Aimed (2 ^ 215) (2 ^ 252) u_top (val x) y (facing v x)
unfolding facing
aimed-facing x y v f a = go (lt x (ratio 0 1)) (signed x f (lt x (ratio 0 1)) refl)
  where
    go : (b : Bool) → val x ≡ cond b (negq (val (abs_of x))) (val (abs_of x)) → Aimed (2 ^ 215) (2 ^ 252) u_top (val x) y (cond b (sub binary64 PI v) v)
    go true e = subst (λ z. Aimed (2 ^ 215) (2 ^ 252) u_top z y (sub binary64 PI v)) (sym e) (aimed-left (val (abs_of x)) y v a)
    go false e = subst (λ z. Aimed (2 ^ 215) (2 ^ 252) u_top z y v) (sym e) (aimed-right (val (abs_of x)) y v a)

aimed-sided : (x : ℚ) (y v : Float) → T (finite y) → Aimed (2 ^ 215) (2 ^ 252) u_top x (val (abs_of y)) v
    → Aimed (2 ^ 215) (2 ^ 252) u_top x (val y) (cond (lt y (ratio 0 1)) (neg v) v)
aimed-sided x y v f a = go (lt y (ratio 0 1)) (signed y f (lt y (ratio 0 1)) refl)
  where
    go : (b : Bool) → val y ≡ cond b (negq (val (abs_of y))) (val (abs_of y)) → Aimed (2 ^ 215) (2 ^ 252) u_top x (val y) (cond b (neg v) v)
    go true e = subst (λ z. Aimed (2 ^ 215) (2 ^ 252) u_top x z (neg v)) (sym e) (aimed-down x (val (abs_of y)) v a)
    go false e = subst (λ z. Aimed (2 ^ 215) (2 ^ 252) u_top x z v) (sym e) a

-- ---- a magnitude of at most 0 is a zero
zero-level : (s : Bool) (a b : ℕ) → a ≡ 0 → b ≡ 0 → T (level s a false b)
zero-level true a b z y = and_i (eqb a b) (eqb a 0) (eq→eqb (z ∙ sym y)) (eq→eqb z)
zero-level false a b z y = and_i (eqb a b) true (eq→eqb (z ∙ sym y)) tt

zero-eq : (x : Float) → T (finite x) → val (abs_of x) ≤q qn 0 → T (eq x (ratio 0 1))
unfolding abs_of eq round
zero-eq nan p h = absurd p
zero-eq (inf s) p h = absurd p
zero-eq (fin s m e) p h =
    let k = mk-≤ (sg_f false (m * up e) (down e) (down_pos e)) (whole 0 0) h in
    zero-level s (m * up e * 1) (0 * down e) (omega arith) (omega arith)

some : (y x : Float) → T (finite y) → T (finite x) → T (not (eq x (ratio 0 1) && eq y (ratio 0 1)))
    → T (not (leq (val (abs_of x)) (qn 0) && leq (val (abs_of y)) (qn 0)))
some y x fy fx t =
    let a = leq (val (abs_of x)) (qn 0) in let b = leq (val (abs_of y)) (qn 0) in
    not_T (a && b) (λ z. T_not (eq x (ratio 0 1) && eq y (ratio 0 1)) t
    (and_i (eq x (ratio 0 1)) (eq y (ratio 0 1)) (zero-eq x fx (and_l a b z)) (zero-eq y fy (and_r a b z))))

pub aimed-angle : (y x : Float) → T (finite y) → T (finite x) → T (not (eq x (ratio 0 1) && eq y (ratio 0 1)))
    → Aimed (2 ^ 215) (2 ^ 252) u_top (val x) (val y) (angle_of y x)
unfolding angle_of
aimed-angle y x fy fx t =
    let v = quadrant (abs_of y) (abs_of x) in
    aimed-sided (val x) y (facing v x) fy (aimed-facing x (val (abs_of y)) v fx
    (aimed-quadrant (abs_of y) (abs_of x) (abs-finite y fy) (abs-finite x fx) (abs-nn y) (abs-nn x) (some y x fy fx t)))
