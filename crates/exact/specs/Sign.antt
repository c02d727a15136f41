-- A product of values that are not negative is not negative, and |x|.
use Rattle.std.specs.Prelude.{◌≡◌, refl, Bool, true, false, cond, ℕ, zero, suc, ◌*◌, ◌^◌, ◌<◌, pos, T, ltb, Float}
use Rattle.std.proofs.Common.{sym, ap, ◌∙◌, subst, mul-pos, zero-lt-suc, zero-mul, mul-zero, arith, pow_pos}
use mathlib.Core.Quot.{sound}
use Rattle.std.specs.Float.{nan, inf, fin, binary64}
use Rattle.std.specs.Float.Ieee.{up, down, unlike, odd, units, round, mul}
use Rattle.std.specs.Float.Ieee.Fits.{down_pos, round_is}
use Rattle.std.specs.Float.Ieee.Exact.{HasValue}
use Rattle.std.specs.Float.Ieee.Order.{drop, kept}
use Rattle.std.specs.Float.Ieee.Scale.{finite, grid}
use Rattle.exact.specs.Rat.{qn, whole, ≤-mk, mk-≤, ≤q-refl}
use Rattle.exact.specs.Abs.{0≤}
use Rattle.exact.specs.Grid.{Near, kept_near}
use Rattle.exact.specs.Val.{val, sg, sg_f, has→val, round-has}

pub sg-nn : (a c : ℕ) (C : 0 < c) → 0≤ (sg false a c C)
sg-nn a c C = ≤-mk (whole 0 0) (sg_f false a c C) (omega arith)

odd-nn : (d q k l : ℕ) → 0≤ (val (odd d false q k l))
unfolding odd
odd-nn d zero k l = sg-nn (0 * 2 ^ 0) 1 (down_pos (pos 0))
odd-nn d (suc q) k l = sg-nn _ _ _

units-nn : (q k : ℕ) → 0≤ (val (units binary64 false q k))
unfolding units
units-nn q k = go (ltb (q * 2 ^ k) (2 ^ 2098))
  where
    go : (b : Bool) → 0≤ (val (cond b (odd 54 false q k 1074) (inf false)))
    go true = odd-nn 54 q k 1074
    go false = ≤q-refl (qn 0)

round-nn : (num den : ℕ) → 0≤ (val (round binary64 false num den))
round-nn num den = subst (λ z. 0≤ (val z)) (sym (round_is binary64 false num den)) (units-nn (kept 53 (num * 2 ^ 1074) den) (drop 53 (num * 2 ^ 1074) den))

-- 0 rounds to 0, of either sign
grid-zero : (den : ℕ) → 0 < den → grid binary64 0 den ≡ 0
grid-zero den D = go (2 ^ 52) (grid binary64 0 den) (kept_near 53 (0 * 2 ^ 1074) den (zero-lt-suc 52) D) (pow_pos 52)
  where
    go : (h g : ℕ) → Near h 0 den g → 0 < h → g ≡ 0
    go h zero x H = refl
    go h (suc g) x H = absurd (omega (arith, x.0, mul-pos H D))

round-zero : (s : Bool) (den : ℕ) → 0 < den → val (round binary64 s 0 den) ≡ qn 0
round-zero s den D =
    (has→val (round binary64 s 0 den) s 0 (2 ^ 1074) (pow_pos 1074) (subst (λ (g : ℕ). HasValue (round binary64 s 0 den) s g (2 ^ 1074))
    (grid-zero den D) (round-has s 0 den (subst (λ (g : ℕ). g < 2 ^ 2098) (sym (grid-zero den D)) (pow_pos 2098))))).1
    ∙ both s
  where
    both : (s : Bool) → sg s 0 (2 ^ 1074) (pow_pos 1074) ≡ qn 0
    both false = sound refl
    both true = sound refl

zero_of : (a c : ℕ) (C : 0 < c) → 0≤ (sg true a c C) → a ≡ 0
zero_of a c C h = let k = mk-≤ (whole 0 0) (sg_f true a c C) h in omega arith

zero-nn : (s : Bool) (v c : ℕ) → 0 < c → v ≡ 0 → 0≤ (val (round binary64 s v c))
zero-nn s v c C z = subst (λ (v : ℕ). 0≤ (val (round binary64 s v c))) (sym z) (subst 0≤ (sym (round-zero s c C)) (≤q-refl (qn 0)))

pub mul-nn : (x y : Float) → T (finite x) → T (finite y) → 0≤ (val x) → 0≤ (val y) → 0≤ (val (mul binary64 x y))
unfolding mul
mul-nn nan y p q h k = absurd p
mul-nn (inf s) y p q h k = absurd p
mul-nn (fin s m e) nan p q h k = absurd q
mul-nn (fin s m e) (inf t) p q h k = absurd q
mul-nn (fin false m e) (fin false n d) p q h k = round-nn (m * up e * (n * up d)) (down e * down d)
mul-nn (fin true m e) (fin t n d) p q h k =
    let z = zero_of (m * up e) (down e) (down_pos e) h in
    zero-nn (unlike true t) (m * up e * (n * up d)) (down e * down d) (mul-pos (down_pos e) (down_pos d))
    (ap (λ (v : ℕ). v * (n * up d)) z ∙ zero-mul (n * up d))
mul-nn (fin false m e) (fin true n d) p q h k =
    let z = zero_of (n * up d) (down d) (down_pos d) k in
    zero-nn true (m * up e * (n * up d)) (down e * down d) (mul-pos (down_pos e) (down_pos d))
    (ap (λ (v : ℕ). m * up e * v) z ∙ mul-zero (m * up e))
