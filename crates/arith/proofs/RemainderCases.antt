-- The cases of `remainder::unsigned_remainder`: an x below TAU, a finite x from TAU on, and no finite x; and an x below 0.
use mathlib.Core.Path.{◌≡◌, refl, sym, ap, ◌∙◌, subst}
use mathlib.Core.Bool.{true, false, true≢false}
use Prim.Native.Nat.{ℕ, zero, suc, ◌+◌, ◌-◌, ◌*◌, ◌/◌, ◌%◌, ◌^◌, ◌≤◌, ◌<◌}
use native.Mathlib.Nat.{le_trans, le_of_eq, le_of_lt, not-suc-le-zero, lt_of_lt_of_le, lt_of_le_of_lt, lt_of_not-le, not-le_of_lt}
use native.Mathlib.Nat.{le_of_suc-le-suc, le-add_left, zero-lt-suc, zero-mul, mul-one, mul_assoc, mul_right_comm, mul-pos}
use native.Mathlib.Nat.{mul-le-mul_right, mul-lt-mul_of_pos_right, le_of_mul-le-mul_right, mod-lt, div-lt_iff_lt-mul, add_comm}
use native.Mathlib.Omega.{arith}
use lib.IntN.{ℤ, pos, negsuc}
use lib.Dec.{T, ltb, ltb→lt, not_T, lit<, lit≤}
use lib.Pow.{pow-add, pow_pos, pow_mono, shl_lt}
use lib.Ieee.{Float, nan, inf, fin, binary64, up, down, size, of_fields, of_bits, to_bits, fits, of_int}
use lib.Ieee.{round, lt, div, mul, neg, rem}
use lib.Ieee.Digits.{size-le}
use lib.Ieee.Fits.{down_pos, kept-lt}
use lib.Ieee.Exact.{HasValue}
use lib.Ieee.Scale.{round_same}
use lib.Ieee.Back.{round_whole}
use lib.Ieee.Bits.{of_bits-to_bits, is_false}
use Rattle.std.proofs.lemmas.Bool.{ltb-false}
use Rattle.arith.specs.Real.{F}
use Rattle.arith.specs.RealLaws.{zero_is, no, below-zero}
use Rattle.arith.specs.Angle.{TAU}
use Rattle.arith.specs.Laws.Rounding.{fits_below, mul-values, neg-neg}
use Rattle.arith.specs.Laws.RootBits.{fields, exponent_lt, low_value, high_value}
use Rattle.arith.proofs.Ways.{infinity_is}
use Rattle.arith.proofs.RootCases.{invalid}
use Rattle.arith.proofs.RemainderLaws.{mod-scale, rem-units, rem-small, rem-neg}

-- ---- the code's constants
-- TAU's digits: TAU is digits * 2 ^ -50, and 8 divides them
abbrev pub digits : ℕ
digits = 7074237752028440

-- without their closing zeros
abbrev core : ℕ
core = 884279719003555

abbrev tau : Float
tau = fin false core (negsuc 46)

tau-is : TAU ≡ tau
unfolding of_bits
tau-is = refl

tau-units : HasValue TAU false (digits * 2 ^ 1024) (2 ^ 1074)
unfolding of_bits
tau-units = (refl, refl)

-- 2 ^ -50
abbrev pub unit : Float
unit = F 0x3cd0_0000_0000_0000

unit-value : HasValue unit false 1 (2 ^ 50)
unfolding of_bits
unit-value = (refl, refl)

-- ---- below TAU
tau-pos : (d : ℕ) → 0 < d → 0 < core * 1 * d
tau-pos d h = mul-pos (lit< tt) h

small_at : (x : Float) → T (fits binary64 x) → lt x (fin false 0 (pos 0)) ≡ false → lt x tau ≡ true → x ≡ rem binary64 x tau
unfolding lt
small_at nan f p h = no h
small_at (inf true) f p h = absurd (true≢false p)
small_at (inf false) f p h = no h
small_at (fin false m e) f p h =
    sym (rem-small binary64 false false m core e (negsuc 46) f (ltb→lt (m * up e * 2 ^ 47) (core * 1 * down e) (subst T (sym h) tt)))
small_at (fin true zero e) f p h =
    sym (rem-small binary64 true false 0 core e (negsuc 46) f
    (subst (λ (x : ℕ). x < core * 1 * down e) (sym (ap (λ (x : ℕ). x * 2 ^ 47) (zero-mul (up e)))) (tau-pos (down e) (down_pos e))))
small_at (fin true (suc m) e) f p h = absurd (true≢false (sym (below-zero m e) ∙ p))

pub small : (x : Float) → T (fits binary64 x) → lt x (F 0) ≡ false → lt x TAU ≡ true → x ≡ rem binary64 x TAU
small x f p h =
    small_at x f (ap (lt x) (sym zero_is) ∙ p) (ap (lt x) (sym tau-is) ∙ h) ∙ ap (rem binary64 x) (sym tau-is)

-- ---- not finite
nowhere-at : (x : Float) → lt x (inf false) ≡ false → nan ≡ rem binary64 x TAU
unfolding lt rem
nowhere-at nan h = refl
nowhere-at (inf s) h = refl
nowhere-at (fin s m e) h = absurd (true≢false h)

pub no-finite : (x : Float) → lt x (F 0x7ff0_0000_0000_0000) ≡ false → div binary64 (F 0) (F 0) ≡ rem binary64 x TAU
no-finite x h = invalid ∙ nowhere-at x (ap (lt x) (sym infinity_is) ∙ h)

-- ---- finite, from TAU on: its bits
bits-lt : (m : ℕ) (e : ℤ) → T (fits binary64 (fin false m e)) → to_bits binary64 (fin false m e) < 9218868437227405312
unfolding to_bits
bits-lt m e f =
    let n = m * up e * 2 ^ 1074 / down e in let k = size n - 53 in
    let n-lt : n < 2 ^ 2098 =
    (div-lt_iff_lt-mul (down_pos e)).1
    (lt_of_lt_of_le (mul-lt-mul_of_pos_right (fits_below binary64 false m e f) (pow_pos 1074))
    (le_of_eq (mul_right_comm (2 ^ 1024) (down e) (2 ^ 1074)))) in
    omega (arith, size-le n 2098 n-lt, kept-lt 53 n)

-- an x of A units that is TAU or more has as many units
at_least : (u d A : ℕ) → 0 < d → core * 1 * d ≤ u * 2 ^ 47 → u * 2 ^ 1074 ≡ A * d → digits * 2 ^ 1024 ≤ A
at_least u d A D h e =
    le_of_mul-le-mul_right
    (le_trans (le_of_eq (mul_right_comm (core * 1) (2 ^ 1027) d))
    (le_trans (mul-le-mul_right (2 ^ 1027) h) (le_of_eq (mul_assoc u (2 ^ 47) (2 ^ 1027) ∙ e))))
    D

-- so its exponent's field is 1025 at least
far : (q x : ℕ) → q < 2 ^ 53 → digits * 2 ^ 1024 ≤ q * 2 ^ x → 1024 ≤ x
far q x a h = le_of_suc-le-suc (lt_of_not-le (λ (g : suc x ≤ 1024). not-le_of_lt (near g) h))
  where
    fit : (x : ℕ) → suc x ≤ 1024 → 53 + x ≤ 1076
    fit x g = omega arith

    near : suc x ≤ 1024 → q * 2 ^ x < digits * 2 ^ 1024
    near g = lt_of_lt_of_le (shl_lt 53 x a) (le_trans (pow_mono (fit x g)) (lit≤ {m = 2 ^ 1076} {n = digits * 2 ^ 1024} tt))

-- the digits and the doublings that the code takes from the bits b
abbrev pub doublings : ℕ → ℕ → ℕ
doublings g t = (t + 4503599627370496) * 2 ^ (g - 1025)

-- x is so many times 2 ^ -50
pub record Located (x : Float) (b : ℕ) : Type 0 where
  pub field : 1025 ≤ b / 4503599627370496
  pub value : HasValue x false (doublings (b / 4503599627370496) (b % 4503599627370496) * 2 ^ 1024) (2 ^ 1074)

-- by the exponent's field g, for an x of `digits * 2 ^ 1024` units at least
module _ (x : Float) (t : ℕ) (s : t < 2 ^ 52) (least : (A : ℕ) → HasValue x false A (2 ^ 1074) → digits * 2 ^ 1024 ≤ A) where
  -- a field of 0: t units are too few
  none : HasValue x false (t * 2 ^ 0) (2 ^ 1074) → ⊥
  none v =
      let few : t * 2 ^ 0 < 2 ^ 52 = lt_of_le_of_lt (le_of_eq (mul-one t)) s in
      not-le_of_lt (lt_of_lt_of_le few (lit≤ {m = 2 ^ 52} {n = digits * 2 ^ 1024} tt)) (least (t * 2 ^ 0) v)

  -- a field of g + 1: 2 ^ 52 + t doubled g times
  some : (g : ℕ) → HasValue x false ((4503599627370496 + t) * 2 ^ g) (2 ^ 1074)
      → (1025 ≤ suc g) × HasValue x false (doublings (suc g) t * 2 ^ 1024) (2 ^ 1074)
  some g v =
      let q = 4503599627370496 + t in let n = suc g - 1025 in
      let h : 1024 ≤ g = far q g (omega arith) (least (q * 2 ^ g) v) in
      let same : q * 2 ^ g ≡ doublings (suc g) t * 2 ^ 1024 =
      ap (λ (z : ℕ). q * 2 ^ z) (omega arith)
      ∙ ap (λ (z : ℕ). q * z) (pow-add 2 n 1024)
      ∙ sym (mul_assoc q (2 ^ n) (2 ^ 1024))
      ∙ ap (λ (z : ℕ). z * 2 ^ n * 2 ^ 1024) (add_comm 4503599627370496 t) in
      (omega arith, subst (λ (A : ℕ). HasValue x false A (2 ^ 1074)) same v)

  by_field : (g : ℕ) → x ≡ of_fields binary64 false g t → g < 2047
      → (1025 ≤ g) × HasValue x false (doublings g t * 2 ^ 1024) (2 ^ 1074)
  by_field zero is l = absurd (none (subst (λ (z : Float). HasValue z false (t * 2 ^ 0) (2 ^ 1074)) (sym is) (low_value t)))
  by_field (suc g) is l =
      some g (subst (λ (z : Float). HasValue z false ((4503599627370496 + t) * 2 ^ g) (2 ^ 1074)) (sym is) (high_value g t l))

located-bits : (m : ℕ) (e : ℤ) → T (fits binary64 (fin false m e)) → core * 1 * down e ≤ m * up e * 2 ^ 47
    → Located (fin false m e) (to_bits binary64 (fin false m e))
located-bits m e f h =
    let x = fin false m e in let b = to_bits binary64 x in let g = b / 4503599627370496 in
    let t = b % 4503599627370496 in let l = bits-lt m e f in
    let is : x ≡ of_fields binary64 false g t = sym (of_bits-to_bits binary64 x f) ∙ fields b l in
    let least : (A : ℕ) → HasValue x false A (2 ^ 1074) → digits * 2 ^ 1024 ≤ A =
    λ A v. at_least (m * up e) (down e) A (down_pos e) h v.1 in
    let k = by_field x t (mod-lt b (lit< tt)) least g is (exponent_lt b l) in
    record { field = k.0; value = k.1 }

located-of : (x : Float) → T (fits binary64 x) → lt x tau ≡ false → lt x (inf false) ≡ true → Located x (to_bits binary64 x)
unfolding lt
located-of nan f h k = no k
located-of (inf true) f h k = absurd (true≢false h)
located-of (inf false) f h k = no k
located-of (fin false m e) f h k = located-bits m e f (ltb-false (m * up e * 2 ^ 47) (core * 1 * down e) h)
located-of (fin true m e) f h k =
    let a = m * up e * 2 ^ 47 in let b = core * 1 * down e in
    absurd (not-le_of_lt (lt_of_lt_of_le (tau-pos (down e) (down_pos e)) (le-add_left b a)) (ltb-false 0 (a + b) h))

pub located : {x : Float} → T (fits binary64 x) → lt x TAU ≡ false → lt x (F 0x7ff0_0000_0000_0000) ≡ true
    → Located x (to_bits binary64 x)
located {x} f h k = located-of x f (ap (lt x) (sym tau-is) ∙ h) (ap (lt x) (sym infinity_is) ∙ k)

-- ---- and its remainder
digits-pos : 0 < digits
digits-pos = lit< tt

remainder-lt : (n : ℕ) → n % digits ≤ 2 ^ 53
remainder-lt n = le_trans (le_of_lt (mod-lt n digits-pos)) (lit≤ tt)

product : (r : ℕ) → r ≤ 2 ^ 53 → mul binary64 (of_int binary64 (pos r)) unit ≡ round binary64 false r (2 ^ 50)
unfolding of_int
product r h =
    mul-values binary64 (round binary64 false r 1) unit false false r 1 1 (2 ^ 50) (zero-lt-suc 0) (pow_pos 50)
    (round_whole binary64 false r h) unit-value
    ∙ ap (λ (z : ℕ). round binary64 false z (2 ^ 50)) (mul-one r)

pub reduced : (x : Float) (n r : ℕ) → HasValue x false (n * 2 ^ 1024) (2 ^ 1074) → r ≡ n % digits
    → mul binary64 (of_int binary64 (pos r)) unit ≡ rem binary64 x TAU
reduced x n r v e =
    let k = 2 ^ 1024 in let K = pow_pos 1024 in
    product r (subst (λ (z : ℕ). z ≤ 2 ^ 53) (sym e) (remainder-lt n))
    ∙ round_same binary64 false r (2 ^ 50) (r * k) (2 ^ 1074) (pow_pos 50) (pow_pos 1074) (sym (mul_assoc r k (2 ^ 50)))
    ∙ ap (λ (z : ℕ). round binary64 false (z * k) (2 ^ 1074)) e
    ∙ ap (λ (z : ℕ). round binary64 false z (2 ^ 1074)) (sym (mod-scale n digits k digits-pos K))
    ∙ sym (rem-units binary64 x TAU false false (n * k) (digits * k) (mul-pos digits-pos K) v tau-units)

-- ---- an x below 0
not-below : (a d : ℕ) → ltb a (0 * 1 * d) ≡ false
not-below a d =
    let b = ltb a (0 * 1 * d) in
    is_false b (not_T b (λ t. not-suc-le-zero (subst (λ (z : ℕ). a < z) (zero-mul d) (ltb→lt a (0 * 1 * d) t))))

turned-at : (x : Float) → lt x (fin false 0 (pos 0)) ≡ true → lt (neg x) (fin false 0 (pos 0)) ≡ false
unfolding lt neg
turned-at nan h = no h
turned-at (inf true) h = refl
turned-at (inf false) h = no h
turned-at (fin true m e) h = not-below (m * up e * 1) (down e)
turned-at (fin false m e) h = absurd (true≢false (sym h ∙ not-below (m * up e * 1) (down e)))

pub turned : (x : Float) → lt x (F 0) ≡ true → lt (neg x) (F 0) ≡ false
turned x h = ap (lt (neg x)) zero_is ∙ turned-at x (ap (lt x) (sym zero_is) ∙ h)

pub minus-remainder : (x r : Float) → r ≡ rem binary64 (neg x) TAU → neg r ≡ rem binary64 x TAU
minus-remainder x r e = ap neg (e ∙ rem-neg binary64 x TAU) ∙ neg-neg (rem binary64 x TAU)

-- ---- what the two functions use
pub ruleset below = (turned, minus-remainder)

pub ruleset above = (located, reduced, no-finite)
