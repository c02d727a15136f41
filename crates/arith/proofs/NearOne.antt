-- The check of src/near_one.rt: where it says yes, q is nearest to the root (`checked`), and a double from 1 to 2 whose digits are
-- nearest to the root of another's is its square root (`root-of-digits`).
use mathlib.Core.Path.{◌≡◌, sym, ap, ◌∙◌, subst}
use Prim.Native.Nat.{ℕ, ◌+◌, ◌-◌, ◌*◌, ◌/◌, ◌%◌, ◌^◌, ◌≤◌, ◌<◌}
use native.Mathlib.Nat.{add-sub_of_le, div-add-mod'}
use native.Mathlib.Omega.{arith}
use lib.Dec.{T, lit<}
use lib.Ieee.{Float, binary64, of_bits, to_bits, fits}
use lib.Ieee.Bits.{of_bits-to_bits}
use Rattle.arith.specs.Root.{sqrt, round_root}
use Rattle.arith.specs.Answered.{NearRoot}
use Rattle.arith.specs.Laws.RootBits.{joined, sqrt-high}

-- ---- the check, by d = m - a * a and u = d * 2 ^ 25 + 2 ^ 26 - a * b
near-at : (a b d u : ℕ) → a * b + u ≡ d * 33554432 + 67108864
    → b * b + 9007199254740992 < u * 134217728 + (a * 67108864 + b) → u * 134217728 ≤ b * b + 9007199254740992 + (a * 67108864 + b)
    → NearRoot ((a * a + d) * 4503599627370496) (a * 67108864 + b)
near-at a b d u e h k = (omega arith, omega arith)

abbrev difference : ℕ → ℕ → ℕ
difference m q = (m - q / 67108864 * (q / 67108864)) * 33554432 + 67108864 - q / 67108864 * (q % 67108864)

pub checked : (m q : ℕ) → q / 67108864 * (q / 67108864) ≤ m
    → q / 67108864 * (q % 67108864) ≤ (m - q / 67108864 * (q / 67108864)) * 33554432 + 67108864
    → q % 67108864 * (q % 67108864) + 9007199254740992 < difference m q * 134217728 + q
    → difference m q * 134217728 ≤ q % 67108864 * (q % 67108864) + 9007199254740992 + q
    → NearRoot (m * 4503599627370496) q
checked m q i j h k =
    let a = q / 67108864 in let b = q % 67108864 in let d = m - a * a in let u = difference m q in
    let q-is : a * 67108864 + b ≡ q = div-add-mod' q 67108864 in
    let z = b * b + 9007199254740992 in
    let n : NearRoot ((a * a + d) * 4503599627370496) (a * 67108864 + b) =
    near-at a b d u (add-sub_of_le j)
    (subst (λ (x : ℕ). z < u * 134217728 + x) (sym q-is) h) (subst (λ (x : ℕ). u * 134217728 ≤ z + x) (sym q-is) k) in
    subst (λ (x : ℕ). NearRoot (m * 4503599627370496) x) q-is
    (subst (λ (x : ℕ). NearRoot (x * 4503599627370496) (a * 67108864 + b)) (add-sub_of_le i) n)

-- ---- doubles
not-zero : (b : ℕ) → b / 4503599627370496 ≡ 1023 → b / 4503599627370496 ≡ 0 → ⊥
not-zero b e h = omega arith

root-of-bits : (b n : ℕ) → b / 4503599627370496 ≡ 1023 → n / 4503599627370496 ≡ 1023
    → NearRoot ((b - 4602678819172646912) * 2 ^ 52) (n - 4602678819172646912) → of_bits binary64 n ≡ sqrt binary64 (of_bits binary64 b)
root-of-bits b n e i near =
    let m = b - 4602678819172646912 in let q = n - 4602678819172646912 in
    ap (of_bits binary64) (sym (omega arith))
    ∙ (joined m 1022 q (omega arith) (omega arith) (lit< tt) near).1
    ∙ ap (λ (x : ℕ). round_root binary64 (m * 2 ^ (x + 1073))) (sym e)
    ∙ ap (λ (x : ℕ). round_root binary64 (x * 2 ^ (b / 4503599627370496 + 1073))) (omega arith)
    ∙ sym (sqrt-high b (omega arith) (not-zero b e))

pub root-of-digits : (x : Float) {s : Float} → T (fits binary64 x) → T (fits binary64 s)
    → to_bits binary64 x / 4503599627370496 ≡ 1023 → to_bits binary64 s / 4503599627370496 ≡ 1023
    → NearRoot ((to_bits binary64 x - 4602678819172646912) * 2 ^ 52) (to_bits binary64 s - 4602678819172646912) → s ≡ sqrt binary64 x
root-of-digits x {s} f g e i near =
    sym (of_bits-to_bits binary64 s g)
    ∙ root-of-bits (to_bits binary64 x) (to_bits binary64 s) e i near
    ∙ ap (sqrt binary64) (of_bits-to_bits binary64 x f)
