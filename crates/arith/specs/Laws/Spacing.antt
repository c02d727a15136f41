-- How the doubles are spaced: in whole numbers of units 2 ^ -1074, between q * 2 ^ k and (q + 1) * 2 ^ k there is
-- none, for a q of 53 digits at least. And a double that is not below 0, as a fraction over 2 ^ 1074.
use Rattle.std.specs.Prelude.{◌≡◌, Bool, true, false, ℕ, suc, ◌+◌, ◌-◌, ◌*◌, ◌^◌, ◌≤◌, ◌<◌, T, Float}
use Rattle.std.proofs.Common.{sym, ap, ◌∙◌, subst, le_trans, le_of_eq, lt_of_lt_of_le, lt_of_le_of_lt, lt_of_not-le, not-le_of_lt, mul_assoc, mul-le-mul_right}
use Rattle.std.proofs.Common.{mul-lt-mul_of_pos_right, lt_of_mul-lt-mul_right, le_of_suc-le-suc, arith, pow-add, pow_pos, pow_mono}
use mathlib.Core.Quot.{sound}
use Rattle.std.proofs.Math.Decide.{dec_le}
use Rattle.std.proofs.Math.Dec.{nleb→lt}
use Rattle.std.proofs.Math.Arith.{lt→nleb}
use Rattle.std.specs.Float.{nan, inf, fin, binary64}
use Rattle.std.specs.Float.Ieee.{up, down, fits}
use Rattle.std.specs.Float.Ieee.Fits.{down_pos}
use Rattle.std.specs.Float.Ieee.Scale.{finite}
use Rattle.exact.specs.Rat.{ℚ, whole, leq, ◌<q◌, mk-≤}
use Rattle.exact.specs.Abs.{0≤}
use Rattle.exact.specs.Val.{val, sg, sg_f, has→val}
use Rattle.arith.specs.Laws.RootUnits.{in-units}

-- ---- in whole numbers of units: z is m * 2 ^ j
-- a multiple of 2 ^ k, or of fewer digits: between q * 2 ^ k and the next multiple of 2 ^ k there is none
split : (k j : ℕ) → j < k → (d : ℕ) × (suc d + j ≡ k)
split k j h = (k - suc j, omega arith)

gap-fine : (m j k q : ℕ) → m < 2 ^ 53 → 2 ^ 52 ≤ q → q * 2 ^ k < m * 2 ^ j → k ≤ j
gap-fine m j k q a b h = le_of_suc-le-suc (lt_of_not-le (λ (g : suc j ≤ k). clash g))
  where
    two : (d : ℕ) → 2 * 2 ^ 52 ≤ 2 ^ suc d * 2 ^ 52
    two d = mul-le-mul_right (2 ^ 52) (pow_mono {i = 1} {j = suc d} (omega arith))

    clash : suc j ≤ k → ⊥
    clash g =
        let s = split k j g in let d = s.0 in
        let e : 2 ^ k ≡ 2 ^ suc d * 2 ^ j = ap (λ (x : ℕ). 2 ^ x) (sym s.1) ∙ pow-add 2 (suc d) j in
        let l : q * 2 ^ suc d * 2 ^ j < m * 2 ^ j = lt_of_le_of_lt (le_of_eq (mul_assoc q (2 ^ suc d) (2 ^ j) ∙ ap (λ (x : ℕ). q * x) (sym e))) h in
        let l' = lt_of_mul-lt-mul_right (2 ^ j) l in
        let t : 2 ^ 52 * 2 ^ suc d ≤ q * 2 ^ suc d = mul-le-mul_right (2 ^ suc d) b in
        omega (arith, two d)

pub above-next : (m j k q : ℕ) → m < 2 ^ 53 → 2 ^ 52 ≤ q → q * 2 ^ k < m * 2 ^ j → (q + 1) * 2 ^ k ≤ m * 2 ^ j
above-next m j k q a b h = whole (gap-fine m j k q a b h)
  where
    whole : k ≤ j → (q + 1) * 2 ^ k ≤ m * 2 ^ j
    whole g =
        let e : m * 2 ^ j ≡ m * 2 ^ (j - k) * 2 ^ k = ap (λ (x : ℕ). m * 2 ^ x) (omega arith)
        ∙ ap (λ (x : ℕ). m * x) (pow-add 2 (j - k) k) ∙ sym (mul_assoc m (2 ^ (j - k)) (2 ^ k)) in
        let l = lt_of_mul-lt-mul_right (2 ^ k) (lt_of_lt_of_le h (le_of_eq e)) in
        le_trans (mul-le-mul_right (2 ^ k) (omega arith)) (le_of_eq (sym e))

-- below it: z is at most (q - 1) * 2 ^ k, unless q is the least of its binade
pub below_next : (m j k q : ℕ) → m < 2 ^ 53 → 2 ^ 52 < q → m * 2 ^ j < q * 2 ^ k → m * 2 ^ j ≤ (q - 1) * 2 ^ k
below_next m j k q a b h = go (dec_le (m * 2 ^ j) ((q - 1) * 2 ^ k))
  where
    go : Dec (m * 2 ^ j ≤ (q - 1) * 2 ^ k) → m * 2 ^ j ≤ (q - 1) * 2 ^ k
    go (yes l) = l
    go (no f) = absurd (not-le_of_lt h (subst (λ (x : ℕ). x * 2 ^ k ≤ m * 2 ^ j) (omega arith) (above-next m j k (q - 1) a (omega arith) (lt_of_not-le f))))

-- ---- in fractions
abbrev pub L : 0 < 2 ^ 1074
L = pow_pos 1074

abbrev pub frac : ℕ → ℚ
frac a = sg false a (2 ^ 1074) L

pub less-frac : (a b c : ℕ) (C : 0 < c) → a < b → sg false a c C <q sg false b c C
unfolding leq
less-frac a b c C h = lt→nleb (b * c + 0 * c) (a * c + 0 * c) (let z = mul-lt-mul_of_pos_right h C in omega arith)

pub frac-less : (a b c : ℕ) (C : 0 < c) → sg false a c C <q sg false b c C → a < b
unfolding leq
frac-less a b c C t = lt_of_mul-lt-mul_right c (let z = nleb→lt (b * c + 0 * c) (a * c + 0 * c) t in omega arith)

-- a value that is not below 0, in units
pub record Grid (z : Float) : Type 0 where
  pub m : ℕ
  pub j : ℕ
  pub digits : m < 2 ^ 53
  pub is : val z ≡ frac (m * 2 ^ j)

no_less : (a c : ℕ) (C : 0 < c) → 0≤ (sg true a c C) → a ≡ 0
no_less a c C h = let k = mk-≤ (whole 0 0) (sg_f true a c C) h in omega arith

pub zero-both : (s : Bool) (a c b : ℕ) (C : 0 < c) (B : 0 < b) → a ≡ 0 → sg s a c C ≡ sg false 0 b B
zero-both false a c b C B e = sound (ap (λ (x : ℕ). x * b + 0 * c) e ∙ omega arith)
zero-both true a c b C B e = sound (sym (ap (λ (x : ℕ). 0 * c + x * b) e ∙ omega arith))

pub grid : (z : Float) → T (fits binary64 z) → T (finite z) → 0≤ (val z) → Grid z
grid nan f p h = absurd p
grid (inf s) f p h = absurd p
grid (fin false m e) f p h =
    let u = in-units false m e f in
    record { m = u.m; j = u.j; digits = u.digits; is = (has→val (fin false m e) false (u.m * 2 ^ u.j) (2 ^ 1074) (pow_pos 1074) u.value).1 }
grid (fin true m e) f p h = record {
  m = 0;
  j = 0;
  digits = pow_pos 53;
  is = zero-both true (m * up e) (down e) (2 ^ 1074) (down_pos e) (pow_pos 1074) (no_less (m * up e) (down e) (down_pos e) h);
}
