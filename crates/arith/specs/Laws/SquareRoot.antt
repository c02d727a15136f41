-- `sqrt` is IEEE 754's square root of every double (`square-root`), and no other double is (`square-root-unique`).
use Rattle.std.specs.Prelude.{◌≡◌, Bool, true, false, not, List, [], ◌∷◌, ℕ, zero, suc, ◌+◌, ◌*◌, ℤ, pos, T, ltb, Float}
use Rattle.std.proofs.Math.Path.{refl}
use Rattle.std.proofs.Common.{sym, ap, ◌∙◌, subst, true≢false, zero-lt-suc, mul-pos, arith, ltb→lt}
use mathlib.Core.Quot.{sound}
use Rattle.std.specs.Float.{nan, inf, fin, binary64}
use Rattle.std.specs.Float.Ieee.{up, down, round, fits, lt, eq}
use Rattle.std.specs.Float.Ieee.Fits.{up_pos, down_pos}
use Rattle.std.specs.Float.Ieee.Scale.{finite}
use Rattle.std.specs.Float.Ieee.Positive.{positive}
use Rattle.exact.specs.Rat.{ℚ, qn, leq, ◌+q◌, ◌*q◌, ◌≤q◌, ◌<q◌, mk-≤, +q-comm, 0≤-add}
use Rattle.exact.specs.Rat.{≤q-sub, ≤q-refl, ≤q-trans, ≤q-antisymm, ≤q-total}
use Rattle.exact.specs.Abs.{0≤, T_not}
use Rattle.exact.specs.RingQ.{Rx, rv, ◌⊕◌, ◌⊖◌, ◌⊗◌, same_q}
use Rattle.exact.specs.Cert.{nat, Nns, comb, den, by-cert, hyp, num, ◌⊞◌, ◌⊠◌}
use Rattle.exact.specs.Val.{val, sg_f}
use Rattle.arith.specs.Real.{ratio}
use Rattle.arith.specs.Root.{sqrt}
use Rattle.arith.specs.SquareRoot.{Double, Nearest, IsSquareRoot, Rooted}
use Rattle.arith.specs.RealLaws.{zero_left, not_zero_left, no, no-below, below-zero}
use Rattle.arith.specs.Laws.Spacing.{less-frac, zero-both}
use Rattle.arith.specs.Laws.RootNearest.{positive_of, root-finite, root-fits, root-above-zero, below-nearer, above-nearer}
use Rattle.arith.specs.Laws.Rounding.{value-unique}

-- ---- 0 as the definition has it
zero_is : ratio 0 1 ≡ fin false 0 (pos 0)
unfolding round
zero_is = refl

zero-double : Double (fin false 0 (pos 0))
unfolding fits
zero-double = (tt, tt)

zero_val : val (fin false 0 (pos 0)) ≡ qn 0
zero_val = sound refl

positive-val : (m : ℕ) (e : ℤ) → qn 0 <q val (fin false (suc m) e)
positive-val m e =
    subst (λ z. z <q val (fin false (suc m) e)) (zero-both false 0 (down e) 1 (down_pos e) (zero-lt-suc 0) refl)
    (less-frac 0 (suc m * up e) (down e) (down_pos e) (mul-pos (zero-lt-suc m) (up_pos e)))

-- ---- the order
either : (b : Bool) {X : Type 0} → (T b → X) → (T (not b) → X) → X
either true f g = f tt
either false f g = g tt

clash : (b : Bool) → T b → T (not b) → ⊥
clash true t n = n
clash false t n = t

-- a middle of a d below 0 and r is nearer to 0 than the middle of 0 and r
smaller-middle : (d r : ℚ) → d ≤q qn 0 → 0≤ (d +q r) → (d +q r) *q (d +q r) ≤q (qn 0 +q r) *q (qn 0 +q r)
unfolding same_q den comb
smaller-middle d r h k =
    let H : List Rx = (nat 0 ⊖ rv 0) ∷ (rv 0 ⊕ rv 1) ∷ [] in
    let N : Nns (d ∷ r ∷ []) H = (≤q-sub d (qn 0) h, (k, tt)) in
    by-cert (d ∷ r ∷ []) [] tt H N [] (hyp 0 ⊠ (num 2 0 ⊠ hyp 1 ⊞ hyp 0))
    ((rv 0 ⊕ rv 1) ⊗ (rv 0 ⊕ rv 1)) ((nat 0 ⊕ rv 1) ⊗ (nat 0 ⊕ rv 1)) tt

-- ---- a finite x above 0
module _ (x : Float) (f : T (fits binary64 x)) (p : T (finite x)) (a : qn 0 <q val x) where
  abbrev r : Float
  r = sqrt binary64 x

  r-positive : qn 0 <q val r
  r-positive = root-above-zero x f p a

  zero-nearer : (qn 0 +q val r) *q (qn 0 +q val r) <q qn 4 *q val x
  zero-nearer =
      subst (λ z. (z +q val r) *q (z +q val r) <q qn 4 *q val x) zero_val
      (below-nearer x f p a (fin false 0 (pos 0)) zero-double.1 tt (subst 0≤ (sym zero_val) (≤q-refl (qn 0)))
      (subst (λ z. z <q val r) (sym zero_val) r-positive))

  below-zero-nearer : (d : Float) → val d ≤q qn 0 → qn 0 ≤q val d +q val r → (val d +q val r) *q (val d +q val r) <q qn 4 *q val x
  below-zero-nearer d h k = T_not (leq _ _) (λ t. clash (leq _ _) (≤q-trans _ _ _ t (smaller-middle (val d) (val r) h k)) zero-nearer)

  nearest : Nearest (val x) r
  nearest = record {
    double = (root-finite x f p a, root-fits x f p a);
    above_zero = r-positive;
    below = λ d D l h.
        either (leq (qn 0) (val d)) (λ t. below-nearer x f p a d D.1 D.0 t l)
        (λ t. below-zero-nearer d (≤q-total (qn 0) (val d) t) h);
    above = λ d D l.
        let nn = ≤q-trans (qn 0) (val r) (val d) (≤q-total (val r) (qn 0) r-positive) (≤q-total (val d) (val r) l) in
        above-nearer x f p a d D.1 D.0 nn l;
  }

-- ---- every x
pub root-of-zero : (x : Float) → eq x (fin false 0 (pos 0)) ≡ true → x ≡ sqrt binary64 x
unfolding eq sqrt
root-of-zero nan h = no h
root-of-zero (inf s) h = no h
root-of-zero (fin s zero e) h = refl
root-of-zero (fin s (suc m) e) h = absurd (true≢false (sym h ∙ not_zero_left m e s))

minus-zero : (u d : ℕ) → ltb 0 (0 * u * 1 + 0 * 1 * d) ≡ true → ⊥
minus-zero u d h = let l = ltb→lt 0 (0 * u * 1 + 0 * 1 * d) (subst T (sym h) tt) in omega arith

root-of-below : (x : Float) → lt x (fin false 0 (pos 0)) ≡ true → sqrt binary64 x ≡ nan
unfolding lt sqrt
root-of-below nan h = no h
root-of-below (inf true) h = refl
root-of-below (inf false) h = no h
root-of-below (fin true zero e) h = absurd (minus-zero (up e) (down e) h)
root-of-below (fin true (suc m) e) h = refl
root-of-below (fin false m e) h = absurd (no-below (m * up e * 1) (down e) h)

root-of-nan : sqrt binary64 nan ≡ nan
unfolding sqrt
root-of-nan = refl

root-of-infinity : sqrt binary64 (inf false) ≡ inf false
unfolding sqrt
root-of-infinity = refl

pub square-root : (x : Float) → T (fits binary64 x) → IsSquareRoot x (sqrt binary64 x)
square-root x f = record {
  of_nan = λ e. ap (sqrt binary64) e ∙ root-of-nan;
  of-below = λ h. root-of-below x (ap (lt x) (sym zero_is) ∙ h);
  of_zero = λ h. sym (root-of-zero x (ap (eq x) (sym zero_is) ∙ h));
  of-infinity = λ e. ap (sqrt binary64) e ∙ root-of-infinity ∙ sym e;
  of-above = λ p a. nearest x f p a;
}

pub rooted : (x : Float) {r : Float} → T (fits binary64 x) → r ≡ sqrt binary64 x → Rooted x r
rooted x f e = record { is = e; ieee = subst (IsSquareRoot x) (sym e) (square-root x f) }

-- ---- no other
not-both : (x : ℚ) (r s : Float) → Nearest x r → Nearest x s → val r <q val s → ⊥
not-both x r s R S l =
    let t = val r +q val s in
    let nn : 0≤ t =
    0≤-add (val r) (val s) (≤q-total (val r) (qn 0) R.above_zero) (≤q-total (val s) (qn 0) S.above_zero) in
    let over : qn 4 *q x <q t *q t =
    subst (λ z. qn 4 *q x <q z *q z) (+q-comm (val s) (val r)) (R.above s S.double l) in
    clash (leq (qn 4 *q x) (t *q t)) (≤q-total (t *q t) (qn 4 *q x) over) (S.below r R.double l nn)

same-value : (x : ℚ) (r s : Float) → Nearest x r → Nearest x s → val r ≡ val s
same-value x r s R S =
    ≤q-antisymm (val r) (val s)
    (either (leq (val r) (val s)) (λ t. t) (λ t. absurd (not-both x s r S R t)))
    (either (leq (val s) (val r)) (λ t. t) (λ t. absurd (not-both x r s R S t)))

-- doubles above 0 of one value are one double
same-double : (r s : Float) → T (positive r) → T (positive s) → T (fits binary64 r) → T (fits binary64 s)
    → val r ≡ val s → r ≡ s
same-double nan s p q f g e = absurd p
same-double (inf t) s p q f g e = absurd p
same-double (fin true m i) s p q f g e = absurd p
same-double (fin false m i) nan p q f g e = absurd q
same-double (fin false m i) (inf t) p q f g e = absurd q
same-double (fin false m i) (fin true n j) p q f g e = absurd q
same-double (fin false m i) (fin false n j) p q f g e =
    let x = fin false m i in let a = m * up i in let b = n * up j in
    let x-is = sg_f false a (down i) (down_pos i) in let y-is = sg_f false b (down j) (down_pos j) in
    let le = mk-≤ x-is y-is (subst (λ z. val x ≤q z) e (≤q-refl (val x))) in
    let ge = mk-≤ y-is x-is (subst (λ z. z ≤q val x) e (≤q-refl (val x))) in
    value-unique binary64 x (fin false n j) false a (down i) (down_pos i) f g (refl, refl) (refl, omega arith)

nearest-unique : (x : ℚ) (r s : Float) → Nearest x r → Nearest x s → r ≡ s
nearest-unique x r s R S =
    same-double r s (positive_of r R.double.0 R.above_zero) (positive_of s S.double.0 S.above_zero)
    R.double.1 S.double.1 (same-value x r s R S)

pub square-root-unique : (x r s : Float) → IsSquareRoot x r → IsSquareRoot x s → r ≡ s
square-root-unique nan r s R S = R.of_nan refl ∙ sym (S.of_nan refl)
square-root-unique (inf true) r s R S =
    let below : lt (inf true) (ratio 0 1) ≡ true = ap (lt (inf true)) zero_is ∙ under in
    R.of-below below ∙ sym (S.of-below below)
  where
    under : lt (inf true) (fin false 0 (pos 0)) ≡ true
    under = unfold lt in refl
square-root-unique (inf false) r s R S = R.of-infinity refl ∙ sym (S.of-infinity refl)
square-root-unique (fin t zero e) r s R S =
    let is_zero : eq (fin t zero e) (ratio 0 1) ≡ true = ap (eq (fin t zero e)) zero_is ∙ zero_left e t in
    R.of_zero is_zero ∙ sym (S.of_zero is_zero)
square-root-unique (fin true (suc m) e) r s R S =
    let below : lt (fin true (suc m) e) (ratio 0 1) ≡ true = ap (lt (fin true (suc m) e)) zero_is ∙ below-zero m e in
    R.of-below below ∙ sym (S.of-below below)
square-root-unique (fin false (suc m) e) r s R S =
    nearest-unique (val (fin false (suc m) e)) r s (R.of-above tt (positive-val m e)) (S.of-above tt (positive-val m e))
