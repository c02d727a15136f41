-- The law of `atan2_of`: for finite x and y, not both 0, with S and C the exact sums at the answer v, (y C - x S)² ≤ 2^-80 (x² + y²) and 0 < x C + y S.
-- The proof is in the files Atan*.antt beside this one: AtanHalf, AtanArc, AtanDouble, AtanOctant, AtanTurn,
-- AtanSeen, AtanAimed, in this order. Their numbers are worked out in tools/atan_bounds.py.
use Rattle.std.specs.Prelude.{◌≡◌, refl, [], ◌∷◌, Bool, true, false, not, cond, ◌&&◌, ◌-◌, ◌^◌, T, Float}
use Rattle.std.proofs.Common.{sym, ap₂, ◌∙◌, subst, T_not, pow_pos}
use Rattle.std.proofs.Math.Dec.{not_T}
use Rattle.std.specs.Float.Ieee.{eq}
use Rattle.exact.specs.Rat.{ℚ, mk, qn, leq, ◌+q◌, ◌-q◌, ◌*q◌, ◌≤q◌, ◌<q◌, cancel-nn, ≤q-sub, sub-≤q}
use Rattle.exact.specs.Ring.{var, con, ◌:+◌, ◌:-◌, ◌:*◌, same, ring}
use Rattle.exact.specs.RingQ.{Rx, rv, rat, ◌⊕◌, ◌⊖◌, ◌⊗◌, same_q}
use Rattle.exact.specs.Cert.{comb, by-nn, hyp, sqr, num, ◌⊞◌, ◌⊠◌, den}
use Rattle.exact.specs.Abs.{U, iv, iv_f, 0≤, Abs, positive}
use Rattle.exact.specs.Val.{val}
use Rattle.exact.specs.Relative.{tiny}
use Rattle.std.specs.Prelude.{Result, Ok, Err}
use Rattle.arith.specs.Fault.{CollisionError, ArithmeticOverflow}
use Rattle.arith.specs.Real.{ratio, is_finite}
use Rattle.arith.specs.Angle.{angle_of, atan2_of}
use Rattle.arith.specs.ExactSums.{sine_sum41, cosine_sum42}
use Rattle.arith.specs.Laws.Magnitude.{finite-same}
use Rattle.arith.specs.Laws.AtanTurn.{u_top}
use Rattle.arith.specs.Laws.AtanAimed.{Aimed, aimed-angle}

-- ---- the statement
-- y C - x S and x C + y S at the angle v: the point (x, y) turned back by v has the second as its x and the first as its y
abbrev pub across : Float → Float → Float → ℚ
across y x v = val y *q cosine_sum42 (val v) -q val x *q sine_sum41 (val v)

abbrev pub along : Float → Float → Float → ℚ
along y x v = val x *q cosine_sum42 (val v) +q val y *q sine_sum41 (val v)

pub record Atan2Near (y x v : Float) : Type 0 where
  pub fine : T (is_finite v)
  pub near : across y x v *q across y x v ≤q mk (tiny 80) *q (val x *q val x +q val y *q val y)
  pub ahead : qn 0 <q along y x v

-- ---- the two inequalities. z = Y C - X S is at most 2^-41, and N = x² + y² at least m²
square-near : (m z N : ℚ) → 0≤ (N -q m *q m) → Abs z (2 ^ 215) → m *q z *q (m *q z) ≤q mk (tiny 80) *q N
unfolding same_q den comb iv U
square-near m z N l h =
    let e : Rx = rat (iv_f (2 ^ 215)) in
    sub-≤q (m *q z *q (m *q z)) (mk (tiny 80) *q N)
    (by-nn (m ∷ z ∷ N ∷ []) [] tt ((rv 2 ⊖ rv 0 ⊗ rv 0) ∷ (e ⊖ rv 1) ∷ (e ⊕ rv 1) ∷ []) (l, (h.0, (h.1, tt))) []
    (num 1 (2 ^ 80 - 1) ⊠ hyp 0 ⊞ sqr (rv 0) ⊠ (hyp 1 ⊠ hyp 2) ⊞ num 3 (2 ^ 82 - 1) ⊠ sqr (rv 0)) (rat (tiny 80) ⊗ rv 2 ⊖ rv 0 ⊗ rv 1 ⊗ (rv 0 ⊗ rv 1)) tt)

-- a product of what is above 0
product-pos : (m d : ℚ) → T (not (leq m (qn 0))) → T (not (leq d (qn 0))) → qn 0 <q m *q d
unfolding same
product-pos m d p q =
    not_T (leq (m *q d) (qn 0)) (λ t. T_not (leq d (qn 0)) q (sub-≤q d (qn 0)
    (cancel-nn m (qn 0 -q d) p (subst 0≤ (ring (m ∷ d ∷ []) (con 0 :- var 0 :* var 1) (var 0 :* (con 0 :- var 1)) tt) (≤q-sub (m *q d) (qn 0) t)))))

scaled : (m X Y S C : ℚ) → m *q (Y *q C -q X *q S) ≡ m *q Y *q C -q m *q X *q S
unfolding same
scaled m X Y S C = ring (m ∷ X ∷ Y ∷ S ∷ C ∷ []) (var 0 :* (var 2 :* var 4 :- var 1 :* var 3)) (var 0 :* var 2 :* var 4 :- var 0 :* var 1 :* var 3) tt

scaled-sum : (m X Y S C : ℚ) → m *q (X *q C +q Y *q S) ≡ m *q X *q C +q m *q Y *q S
unfolding same
scaled-sum m X Y S C = ring (m ∷ X ∷ Y ∷ S ∷ C ∷ []) (var 0 :* (var 1 :* var 4 :+ var 2 :* var 3)) (var 0 :* var 1 :* var 4 :+ var 0 :* var 2 :* var 3) tt

near_of : (y x v : Float) → Aimed (2 ^ 215) (2 ^ 252) u_top (val x) (val y) v → Atan2Near y x v
near_of y x v a =
    let S = sine_sum41 (val v) in let C = cosine_sum42 (val v) in let m = a.m in let s = a.seen in
    let z = a.Y *q C -q a.X *q S in let d = a.X *q C +q a.Y *q S in
    let e : m *q z ≡ across y x v = scaled m a.X a.Y S C ∙ ap₂ (λ p q. p *q C -q q *q S) (sym a.y-is) (sym a.x-is) in
    let f : m *q d ≡ along y x v = scaled-sum m a.X a.Y S C ∙ ap₂ (λ p q. p *q C +q q *q S) (sym a.x-is) (sym a.y-is) in
    record {
      fine = subst T (sym (finite-same v)) s.fine;
      near = subst (λ w. w *q w ≤q mk (tiny 80) *q (val x *q val x +q val y *q val y)) e
          (square-near m z (val x *q val x +q val y *q val y) a.m-less s.off);
      ahead = subst (λ w. qn 0 <q w) f (product-pos m d a.m-pos (positive d (2 ^ 252) (pow_pos 252) (sub-≤q (iv (2 ^ 252)) d s.ahead)));
    }

-- ---- the law
pub atan2-near : (y x : Float) → T (is_finite y) → T (is_finite x) → T (not (eq x (ratio 0 1) && eq y (ratio 0 1)))
    → (v : Float) × (atan2_of y x ≡ Ok v) × Atan2Near y x v
unfolding atan2_of
atan2-near y x fy fx t = (
  angle_of y x,
  answer (is_finite y) (is_finite x) (eq x (ratio 0 1) && eq y (ratio 0 1)) fy fx t,
  near_of y x (angle_of y x) (aimed-angle y x (subst T (finite-same y) fy) (subst T (finite-same x) fx) t),
)
  where
    answer : (a b c : Bool) → T a → T b → T (not c)
        → cond (a && b) (Ok (cond c (ratio 0 1) (angle_of y x))) (Err ArithmeticOverflow) ≡ Ok (angle_of y x)
    answer true true true p q r = absurd r
    answer true true false p q r = refl
    answer true false c p q r = absurd q
    answer false b c p q r = absurd p
