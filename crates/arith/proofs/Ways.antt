-- Two literals of the code; which numbers `sin_cos` and `atan2` answer; `abs` and `is_finite` by their tests.
use lib.Ieee as Ieee
use lib.Ieee.{Float, nan, inf, fin, binary64, of_bits, round, neg, fits, up, down}
use mathlib.Core.Path.{◌≡◌, refl, sym, ap, ◌∙◌}
use mathlib.Core.Bool.{Bool, true, false, cond, not, ◌&&◌, ◌||◌, not-not, true≢false}
use lib.IntN.{ℤ, pos}
use lib.Dec.{T}
use lib.Ieee.Fits.{down_pos}
use lib.Ieee.Scale.{round_same}
use native.Mathlib.Nat.{zero-mul, zero-lt-suc, mul-pos}
use native.Mathlib.Omega.{arith}
use Rattle.arith.specs.RealLaws.{finite-is, zero_left, not_zero_left, zero_is, no, no-below, below-zero}
use Rattle.arith.specs.Laws.Rounding.{round-self}
use Rattle.exact.specs.Compare.{lt_val, le_val}
use Prim.Native.Nat.{ℕ, zero, suc, ◌+◌, ◌*◌}
use Rattle.arith.specs.Real.{◌⊖◌, ◌⊘◌, F, ratio, is_finite, abs_of}
use Rattle.std.specs.Prelude.{Result, Ok, Err}
use Rattle.arith.specs.Fault.{CollisionError, number, refusal_number, ArithmeticOverflow}
use Rattle.arith.specs.Angle.{PI, halved_of, sin_cos_of, atan2_of}
use Rattle.arith.specs.Answered.{SinCosAnswered, Atan2Answered}
use Rattle.arith.specs.declared.angle.SineCosine.{SineCosine}

-- ---- literals
pub infinity_is : F 0x7ff0_0000_0000_0000 ≡ inf false
unfolding of_bits
infinity_is = refl

-- the nearest double to half of PI
pub half_pi : F 0x3ff9_21fb_5444_2d18 ≡ PI ⊘ ratio 2 1
unfolding of_bits round Ieee.div
half_pi = refl

-- ---- sine and cosine
-- 0 ≤ h ≤ 4, as the code tests it
within-four : (h : Float) → not (Ieee.lt h (F 0)) && Ieee.le h (F 0x4010_0000_0000_0000) ≡ Ieee.le (F 0) h && Ieee.le h (F 0x4010_0000_0000_0000)
unfolding of_bits Ieee.le Ieee.lt Ieee.eq
within-four nan = refl
within-four (inf true) = refl
within-four (inf false) = refl
within-four (fin s m e) =
    let h = fin s m e in let test = Ieee.le h (F 0x4010_0000_0000_0000) in
    let low : not (Ieee.lt h (F 0)) ≡ Ieee.le (F 0) h = ap not (lt_val h (F 0) tt tt) ∙ not-not _ ∙ sym (le_val (F 0) h tt tt) in
    ap (λ (b : Bool). b && test) low

numbered-turn : (a b : Bool) (t : SineCosine)
    → refusal_number (cond a (Err ArithmeticOverflow) (cond b (Ok t) (Err ArithmeticOverflow))) ≡ cond (not a && b) 0 (number ArithmeticOverflow)
numbered-turn true b t = refl
numbered-turn false true t = refl
numbered-turn false false t = refl

pub sin_cos_answered : {h : Float} {r : Result SineCosine CollisionError} → r ≡ sin_cos_of h → SinCosAnswered h r
unfolding of_bits round sin_cos_of
sin_cos_answered {h} e = record {
  is = e;
  numbered = ap refusal_number e
      ∙ numbered-turn (Ieee.lt h (F 0)) (Ieee.le h (F 0x4010_0000_0000_0000)) (halved_of 3 h)
      ∙ ap (λ (b : Bool). cond b 0 (number ArithmeticOverflow)) (within-four h);
}

-- ---- magnitude and finiteness
-- 0 + x, for an x that is not below 0, and 0 - 0
zero-plus : (m : ℕ) (e : ℤ) → T (fits binary64 (fin false m e)) → Ieee.add binary64 (fin false 0 (pos 0)) (fin false m e) ≡ fin false m e
unfolding Ieee.add Ieee.sum
zero-plus m e f =
    let d = down e in
    round_same binary64 false (0 * 1 * d + m * up e * 1) (1 * d) (m * up e) d (mul-pos (zero-lt-suc 0) (down_pos e)) (down_pos e)
    (omega arith)
    ∙ round-self binary64 false m e f

zero-less : (a b c : ℕ) → a ≡ 0 → b ≡ 0 → Ieee.sum binary64 false a true b c ≡ round binary64 false 0 c
unfolding Ieee.sum
zero-less a b c p q = ap (λ (a : ℕ). Ieee.sum binary64 false a true b c) p ∙ ap (λ (b : ℕ). Ieee.sum binary64 false 0 true b c) q

zero_minus : (e : ℤ) → T (fits binary64 (fin false 0 e)) → Ieee.add binary64 (fin false 0 (pos 0)) (fin true 0 e) ≡ fin false 0 e
unfolding Ieee.add
zero_minus e f =
    let d = down e in
    zero-less (0 * 1 * d) (0 * up e * 1) (1 * d) (zero-mul d) (ap (λ (x : ℕ). x * 1) (zero-mul (up e)))
    ∙ round_same binary64 false 0 (1 * d) (0 * up e) d (mul-pos (zero-lt-suc 0) (down_pos e)) (down_pos e) (omega arith)
    ∙ round-self binary64 false 0 e f

sign_fits : (m : ℕ) (e : ℤ) → T (fits binary64 (fin true m e)) → T (fits binary64 (fin false m e))
unfolding fits
sign_fits zero e t = t
sign_fits (suc m) e t = t

above_zero : (m : ℕ) (e : ℤ) → Ieee.le (fin false (suc m) e) (fin false 0 (pos 0)) ≡ true → ⊥
unfolding Ieee.le Ieee.lt
above_zero m e h = neither _ _ h (no-below (suc m * up e * 1) (down e)) (not_zero_left m e false)
  where
    neither : (a b : Bool) → (a || b) ≡ true → (a ≡ true → ⊥) → b ≡ false → ⊥
    neither true b h f g = f refl
    neither false b h f g = true≢false (sym h ∙ g)

abs-below-at : (x : Float) → T (fits binary64 x) → Ieee.le x (fin false 0 (pos 0)) ≡ true → fin false 0 (pos 0) ⊖ x ≡ abs_of x
unfolding Ieee.le Ieee.lt Ieee.eq Ieee.sub Ieee.add neg abs_of
abs-below-at nan f h = no h
abs-below-at (inf true) f h = refl
abs-below-at (inf false) f h = no h
abs-below-at (fin true m e) f h = zero-plus m e (sign_fits m e f)
abs-below-at (fin false zero e) f h = zero_minus e f
abs-below-at (fin false (suc m) e) f h = absurd (above_zero m e h)

pub abs-below : (x : Float) → T (fits binary64 x) → Ieee.le x (F 0) ≡ true → F 0 ⊖ x ≡ abs_of x
abs-below x f h = ap (λ (z : Float). z ⊖ x) zero_is ∙ abs-below-at x f (ap (Ieee.le x) (sym zero_is) ∙ h)

abs-above-at : (x : Float) → Ieee.le x (fin false 0 (pos 0)) ≡ false → x ≡ abs_of x
unfolding Ieee.le abs_of
abs-above-at nan h = refl
abs-above-at (inf true) h = absurd (true≢false (unfold Ieee.lt in h))
abs-above-at (inf false) h = refl
abs-above-at (fin false m e) h = refl
abs-above-at (fin true zero e) h =
    let x = fin true zero e in
    absurd (either-one (Ieee.lt x (fin false 0 (pos 0))) (Ieee.eq x (fin false 0 (pos 0))) h (zero_left e true))
  where
    either-one : (a b : Bool) → (a || b) ≡ false → b ≡ true → ⊥
    either-one true b h g = true≢false h
    either-one false b h g = true≢false (sym g ∙ h)
abs-above-at (fin true (suc m) e) h =
    let x = fin true (suc m) e in
    absurd (true≢false (ap (λ (b : Bool). b || Ieee.eq x (fin false 0 (pos 0))) (sym (below-zero m e)) ∙ h))

pub abs-above : {x : Float} → Ieee.le x (F 0) ≡ false → x ≡ abs_of x
abs-above {x} h = abs-above-at x (ap (Ieee.le x) (sym zero_is) ∙ h)

pub ruleset abs_laws = (abs-below, abs-above)

-- by the two tests of the code
pub finite_by : (x : Float) → is_finite x ≡ Ieee.lt (F 0xfff0_0000_0000_0000) x && Ieee.lt x (F 0x7ff0_0000_0000_0000)
unfolding of_bits neg
finite_by x = sym (finite-is x)

-- ---- arc tangent
numbered-angle : (b : Bool) (v : Float) → refusal_number (cond b (Ok v) (Err ArithmeticOverflow)) ≡ cond b 0 (number ArithmeticOverflow)
numbered-angle true v = refl
numbered-angle false v = refl

pub atan2_answered : (y x : Float) {r : Result Float CollisionError} → r ≡ atan2_of y x → Atan2Answered y x r
unfolding atan2_of
atan2_answered y x e = record { is = e; numbered = ap refusal_number e ∙ numbered-angle (is_finite y && is_finite x) _ }
