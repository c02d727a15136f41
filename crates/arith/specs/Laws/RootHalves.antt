-- The rounded root of m * 2 ^ 52 from the whole root s of m and one division.
use Rattle.std.specs.Prelude.{◌≡◌, ℕ, zero, suc, ◌+◌, ◌-◌, ◌*◌, ◌/◌, ◌%◌, ◌^◌, ◌≤◌, ◌<◌}
use Rattle.std.proofs.Common.{mod-lt, div-add-mod', mul-le-mul_right, mul-le-mul, lt_of_not-le, not-le_of_lt, le_of_suc-le-suc, arith}
use Rattle.arith.specs.Answered.{NearRoot}

-- a number whose square is below another's is below it
pub square-lt : (a b : ℕ) → a * a < b * b → a < b
square-lt a b h = lt_of_not-le (λ g. not-le_of_lt h (mul-le-mul g g))

-- s is the whole root of m, with m of 53 or 54 digits
pub root-lo : (m s : ℕ) → 2 ^ 52 ≤ m → m < (s + 1) * (s + 1) → 2 ^ 26 ≤ s
root-lo m s a b = let k = square-lt (2 ^ 26) (s + 1) (omega arith) in omega arith

pub root-hi : (m s : ℕ) → m < 2 ^ 54 → s * s ≤ m → s < 2 ^ 27
root-hi m s a b = square-lt s (2 ^ 27) (omega arith)

-- what `nearest_root` computes: d, then its quotient t and remainder by s
abbrev pub wide : ℕ → ℕ → ℕ
wide m s = (m - s * s) * 33554432

pub record Halves (m s : ℕ) : Type 0 where
  pub s-lo : 67108864 ≤ s
  pub s-hi : s < 134217728
  pub d-hi : wide m s ≤ s * 67108864
  pub t-hi : wide m s / s ≤ 67108864
  pub tt-hi : wide m s / s * (wide m s / s) ≤ 4503599627370496
  pub p-hi : wide m s % s < s
  pub total : m * 2 ^ 52 + wide m s / s * (wide m s / s) ≡ (s * 67108864 + wide m s / s) * (s * 67108864 + wide m s / s) + wide m s % s * 134217728

rest_le : (m s : ℕ) → m < (s + 1) * (s + 1) → m - s * s ≤ 2 * s
rest_le m s h = omega arith

quotient_le : (s t d p : ℕ) → 0 < s → t * s + p ≡ d → d ≤ s * 67108864 → t ≤ 67108864
quotient_le s t d p h e k = le_of_suc-le-suc (lt_of_not-le (λ g. let z = mul-le-mul_right s g in omega arith))

total-at : (m s r t p : ℕ) → s * s + r ≡ m → t * s + p ≡ r * 33554432 → m * 4503599627370496 + t * t ≡ (s * 67108864 + t) * (s * 67108864 + t) + p * 134217728
total-at m s r t p e k = omega arith

pub halves : (m s : ℕ) → 2 ^ 52 ≤ m → m < 2 ^ 54 → s * s ≤ m → m < (s + 1) * (s + 1) → Halves m s
halves m s a b lo hi =
    let d = wide m s in
    let s-lo : 67108864 ≤ s = root-lo m s a hi in
    let r = rest_le m s hi in
    let e : d / s * s + d % s ≡ d = div-add-mod' d s in
    let d-hi : d ≤ s * 67108864 = omega arith in
    let t-hi : d / s ≤ 67108864 = quotient_le s (d / s) d (d % s) (omega arith) e d-hi in
    record {
      s-lo = s-lo;
      s-hi = root-hi m s b lo;
      d-hi = d-hi;
      t-hi = t-hi;
      tt-hi = mul-le-mul t-hi t-hi;
      p-hi = mod-lt d (omega arith);
      total = total-at m s (m - s * s) (d / s) (d % s) (omega arith) e;
    }

pub up : (n q a b : ℕ) → n + b ≡ q * q + a → a ≤ 2 * q → b + q < a → NearRoot n (q + 1)
up n q a b e h k = (omega arith, omega arith)

pub stay : (n q a b : ℕ) → n + b ≡ q * q + a → b < q → a ≤ b + q → NearRoot n q
stay n q a b e h k = (omega arith, omega arith)

-- ---- what the function asks of each step, on plain numbers: d is below 2 ^ 54, t at most 2 ^ 26, and so on
pub d-fits : (d s : ℕ) → s < 134217728 → d ≤ s * 67108864 → d < 2 ^ 64
d-fits d s a b = omega arith

pub p-fits : (p s : ℕ) → s < 134217728 → p < s → p * 134217728 < 2 ^ 64
p-fits p s a b = omega arith

pub sum_fits : (s t x : ℕ) → s < 134217728 → t ≤ 67108864 → x ≤ 4503599627370496 → x + (s * 67108864 + t) < 2 ^ 64
sum_fits s t x a b c = omega arith

-- t * t is below q: where t is 0 since s is not
square-less : (s t : ℕ) → 67108864 ≤ s → t * t ≤ 4503599627370496 → t * t < s * 67108864 + t
square-less s zero a b = omega arith
square-less s (suc t) a b = omega arith

pub near_up : (m s : ℕ) → Halves m s → wide m s / s * (wide m s / s) + (s * 67108864 + wide m s / s) < wide m s % s * 134217728
    → NearRoot (m * 2 ^ 52) (s * 67108864 + wide m s / s + 1)
near_up m s h =
    up (m * 2 ^ 52) (s * 67108864 + wide m s / s) (wide m s % s * 134217728) (wide m s / s * (wide m s / s))
    h.total (omega (arith, h.p-hi))

pub near-stay : (m s : ℕ) → Halves m s → wide m s % s * 134217728 ≤ wide m s / s * (wide m s / s) + (s * 67108864 + wide m s / s)
    → NearRoot (m * 2 ^ 52) (s * 67108864 + wide m s / s)
near-stay m s h =
    stay (m * 2 ^ 52) (s * 67108864 + wide m s / s) (wide m s % s * 134217728)
    (wide m s / s * (wide m s / s)) h.total (square-less s (wide m s / s) h.s-lo h.tt-hi)
