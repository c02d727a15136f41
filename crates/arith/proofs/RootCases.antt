-- The cases of `root::sqrt`: which values pass the tests `0.0 < x` and `x == 0.0`, and what their bits are; and the shift of `root::root_bits`.
use mathlib.Core.Path.{◌≡◌, refl, sym, ap, ◌∙◌}
use mathlib.Core.Bool.{Bool, true, false, not, cond, true≢false}
use Prim.Native.Nat.{ℕ, zero, suc, ◌+◌, ◌*◌, ◌/◌, ◌%◌, ◌≤◌, ◌<◌}
use native.Mathlib.Nat.{zero-lt-suc, zero-mul, mul-pos, mod-eq_of_lt, eq-zero-or-pos, mod-lt}
use mathlib.Core.Logic.{inl, inr}
use native.Mathlib.Omega.{arith}
use lib.IntN.{ℤ, pos}
use lib.Count.{count_leading_zeros}
use lib.Dec.{T, leb, ltb, eqb, nleb→lt, lt→ltb, lit<}
use lib.Ieee.{Float, nan, inf, fin, binary64, top, hid, up, down, odd, of_fields, of_bits, to_bits, fits, lt, eq, div}
use lib.Ieee.Fits.{up_pos}
use lib.Ieee.Bits.{of_bits-to_bits, nan_bits_above, is_true}
use Rattle.std.proofs.lemmas.Float.{le_of_lt, le_right, not_nan_f64_bits}
use Rattle.arith.specs.Root.{sqrt}
use Rattle.arith.specs.RealLaws.{zero_is, zero_left, no}
use Rattle.arith.specs.Laws.SquareRoot.{root-of-zero, rooted}
use Rattle.arith.specs.Laws.RootBits.{Shifted, shifted, sqrt-low, sqrt-high}

-- the two tests, with 0.0 by its value
above : (x : Float) → (b : Bool) → lt (of_bits binary64 0) x ≡ b → lt (fin false 0 (pos 0)) x ≡ b
above x b h = ap (λ (z : Float). lt z x) (sym zero_is) ∙ h

same : (x : Float) → (b : Bool) → eq x (of_bits binary64 0) ≡ b → eq x (fin false 0 (pos 0)) ≡ b
same x b h = ap (λ (z : Float). eq x z) (sym zero_is) ∙ h

-- ---- above zero
not-above-zero : lt (of_bits binary64 0) (of_bits binary64 0) ≡ false
unfolding lt of_bits
not-above-zero = refl

pub bits_pos : (x : Float) → T (fits binary64 x) → lt (of_bits binary64 0) x ≡ true → 0 < to_bits binary64 x
bits_pos x f h = elim (eq-zero-or-pos (to_bits binary64 x)) [
  | inl e ↦ no (sym not-above-zero ∙ ap (λ (z : Float). lt (of_bits binary64 0) z) (ap (λ (n : ℕ). of_bits binary64 n) (sym e) ∙ of_bits-to_bits binary64 x f)
      ∙ h)
  | inr p ↦ p
]

-- finite and with the sign +
abbrev plain : Float → Bool
plain nan = false
plain (inf s) = false
plain (fin s m e) = not s

plain-odd : (d q k l : ℕ) → plain (odd d true q k l) ≡ false
unfolding odd
plain-odd d zero k l = refl
plain-odd d (suc q) k l = refl

plain-cond : (b : Bool) (x y : Float) → plain x ≡ false → plain y ≡ false → plain (cond b x y) ≡ false
plain-cond true x y h k = h
plain-cond false x y h k = k

plain-minus : (x t : ℕ) → plain (of_fields binary64 true x t) ≡ false
unfolding of_fields
plain-minus zero t = plain-odd 53 t 0 1074
plain-minus (suc x) t =
    plain-cond (eqb (suc x) 2047) (cond (eqb t 0) (inf true) nan) (odd 53 true (4503599627370496 + t) x 1074)
    (plain-cond (eqb t 0) (inf true) nan refl refl) (plain-odd 53 (4503599627370496 + t) x 1074)

plain-ones : (t : ℕ) → plain (of_fields binary64 false 2047 t) ≡ false
unfolding of_fields
plain-ones t = plain-cond (eqb t 0) (inf false) nan refl refl

-- from the bits of +infinity on there is no such value
plain-high : (b : ℕ) → 9218868437227405312 ≤ b → plain (of_bits binary64 b) ≡ false
unfolding of_bits
plain-high b h = go (leb (top binary64) b) (nleb→lt (top binary64) b)
  where
    field : (b : ℕ) → 9218868437227405312 ≤ b → b < 9223372036854775808 → b / 4503599627370496 ≡ 2047
    field b a k = omega arith

    go : (s : Bool) → (T (not s) → b < top binary64) → plain (of_fields binary64 s (b % top binary64 / hid binary64) (b % hid binary64)) ≡ false
    go true k = plain-minus (b % top binary64 / hid binary64) (b % hid binary64)
    go false k =
        ap (λ (x : ℕ). plain (of_fields binary64 false x (b % hid binary64)))
        (ap (λ (x : ℕ). x / hid binary64) (mod-eq_of_lt (k tt)) ∙ field b h (k tt)) ∙ plain-ones (b % hid binary64)

infinite-at : (x : Float) → lt (fin false 0 (pos 0)) x ≡ true → plain x ≡ false → x ≡ sqrt binary64 x
unfolding lt sqrt
infinite-at nan h p = no h
infinite-at (inf true) h p = no h
infinite-at (inf false) h p = refl
infinite-at (fin true m e) h p = no h
infinite-at (fin false m e) h p = absurd (true≢false p)

pub infinite : {x : Float} → T (fits binary64 x) → lt (of_bits binary64 0) x ≡ true → 9218868437227405312 ≤ to_bits binary64 x → x ≡ sqrt binary64 x
infinite {x} f h b = infinite-at x (above x true h) (ap plain (sym (of_bits-to_bits binary64 x f)) ∙ plain-high (to_bits binary64 x) b)

-- ---- zero, and what is left
pub at_zero : {x : Float} → eq x (of_bits binary64 0) ≡ true → x ≡ sqrt binary64 x
at_zero {x} h = root-of-zero x (same x true h)

pub invalid : div binary64 (of_bits binary64 0) (of_bits binary64 0) ≡ nan
unfolding div of_bits
invalid = refl

pub above-left : (m : ℕ) (e : ℤ) → lt (fin false 0 (pos 0)) (fin false (suc m) e) ≡ true
unfolding lt
above-left m e =
    ap (λ (x : ℕ). ltb x (suc m * up e * 1)) (zero-mul (down e))
    ∙ is_true (ltb 0 (suc m * up e * 1)) (lt→ltb 0 (suc m * up e * 1) (mul-pos (mul-pos (zero-lt-suc m) (up_pos e)) (zero-lt-suc 0)))

nowhere-at : (x : Float) → lt (fin false 0 (pos 0)) x ≡ false → eq x (fin false 0 (pos 0)) ≡ false → nan ≡ sqrt binary64 x
unfolding sqrt
nowhere-at nan h k = refl
nowhere-at (inf true) h k = refl
nowhere-at (inf false) h k = absurd (true≢false (unfold lt in h))
nowhere-at (fin s zero e) h k = absurd (true≢false (sym (zero_left e s) ∙ k))
nowhere-at (fin true (suc m) e) h k = refl
nowhere-at (fin false (suc m) e) h k = absurd (true≢false (sym (above-left m e) ∙ h))

pub nowhere : (x : Float) → lt (of_bits binary64 0) x ≡ false → eq x (of_bits binary64 0) ≡ false
    → div binary64 (of_bits binary64 0) (of_bits binary64 0) ≡ sqrt binary64 x
nowhere x h k = invalid ∙ nowhere-at x (above x false h) (same x false k)

-- ---- root_bits
pub lifted : (b : ℕ) → 0 < b → b / 4503599627370496 ≡ 0 → Shifted (b % 4503599627370496) (count_leading_zeros 64 (b % 4503599627370496))
lifted b p e = shifted (b % 4503599627370496) (omega arith) (mod-lt b (lit< tt))

pub ruleset shifts = (lifted, sqrt-low, sqrt-high)

-- ---- sqrt
pub ruleset roots = (le_of_lt, le_right, not_nan_f64_bits, bits_pos, infinite, at_zero, nowhere, rooted, of_bits-to_bits)
