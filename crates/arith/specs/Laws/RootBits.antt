-- Between a float, its number of units 2 ^ -1074 and its bits.
use Rattle.std.specs.Prelude.{◌≡◌, refl, Bool, false, cond, ℕ, zero, suc, ◌+◌, ◌-◌, ◌*◌, ◌/◌, ◌%◌, ◌^◌, ◌≤◌, ◌<◌, T, leb, ltb, eqb, Float}
use Rattle.std.proofs.Common.{sym, ap, ◌∙◌, subst, le_trans, le_of_eq, lt_of_lt_of_le, lt_of_le_of_lt, le_antisymm, lt_of_not-le, not-le_of_lt, mul_assoc}
use Rattle.std.proofs.Common.{mul_comm, mul-div_cancel, mul-le-mul_right, mod-eq_of_lt, zero-add, add_comm, mul-one, mul-pos, arith, leb→le, eqb→eq, lt→ltb}
use Rattle.std.proofs.Common.{lit≤, pow-add, pow_pos, pow_mono, shl_lt, shl_exact}
use Rattle.std.proofs.Math.Nat.{pow-succ'}
use Rattle.std.proofs.Math.Dec.{not_T}
use Rattle.std.specs.Int.Count.{count_leading_zeros}
use Rattle.std.proofs.lemmas.Nat.{leading_top}
use Rattle.std.specs.Float.{nan, inf, fin, Format, binary64}
use Rattle.std.specs.Float.Ieee.{prec, low, hid, top, up, down, size, odd, units, of_fields, of_bits, to_bits, fits}
use Rattle.std.specs.Float.Ieee.Digits.{size-lt, size-le}
use Rattle.std.specs.Float.Ieee.Fits.{down_pos, odd-fits}
use Rattle.std.specs.Float.Ieee.Exact.{HasValue, odd_sign, units_val}
use Rattle.std.specs.Float.Ieee.Bits.{of_bits-to_bits, is_true, is_false}
use Rattle.arith.specs.Root.{round_root, sqrt}
use Rattle.arith.specs.Answered.{NearRoot}
use Rattle.arith.specs.Laws.RootLaws.{round-at, near-lo, near-hi, sqrt-at}

-- ---- the bits of q * 2 ^ k units, for a q of 53 digits

to_bits-at : (f : Format) (x : Float) (A : ℕ) → HasValue x false A (2 ^ low f) → to_bits f x ≡ 0 + (size A - prec f) * hid f + A / 2 ^ (size A - prec f)
unfolding to_bits
to_bits-at f nan A v = absurd v
to_bits-at f (inf s) A v = absurd v
to_bits-at f (fin s m e) A v =
    ap (λ (b : Bool). cond b (top f) 0 + (size (m * up e * 2 ^ low f / down e) - prec f) * hid f
    + m * up e * 2 ^ low f / down e / 2 ^ (size (m * up e * 2 ^ low f / down e) - prec f)) v.0
    ∙ ap (λ (n : ℕ). 0 + (size n - prec f) * hid f + n / 2 ^ (size n - prec f)) (ap (λ (x : ℕ). x / down e) v.1 ∙ mul-div_cancel A (down_pos e))

size_is : (n j : ℕ) → 2 ^ j ≤ n → n < 2 ^ suc j → size n ≡ suc j
size_is n j a b = le_antisymm (size-le n (suc j) b) (lt_of_not-le (λ (g : size n ≤ j). not-le_of_lt (lt_of_lt_of_le (size-lt n) (pow_mono g)) a))

size_of : (q k : ℕ) → 2 ^ 52 ≤ q → q < 2 ^ 53 → size (q * 2 ^ k) - 53 ≡ k
size_of q k a b =
    ap (λ (x : ℕ). x - 53) (size_is (q * 2 ^ k) (52 + k) (le_trans (le_of_eq (pow-add 2 52 k)) (mul-le-mul_right (2 ^ k) a))
    (subst (λ (x : ℕ). q * 2 ^ k < 2 ^ x) (omega arith) (shl_lt 53 k b))) ∙ (omega arith)

-- below the overflow
pub fine : (q k : ℕ) → q < 2 ^ 53 → k < 2046 → q * 2 ^ k < 2 ^ 2098
fine q k a b = lt_of_lt_of_le (shl_lt 53 k a) (pow_mono (room k b))
  where
    room : (k : ℕ) → k < 2046 → 53 + k ≤ 2098
    room k h = omega arith

units-is : (q k : ℕ) → q * 2 ^ k < 2 ^ 2098 → units binary64 false q k ≡ odd 54 false q k 1074
unfolding units
units-is q k h = ap (λ (b : Bool). cond b (odd 54 false q k 1074) (inf false)) (is_true (ltb (q * 2 ^ k) (2 ^ 2098)) (lt→ltb (q * 2 ^ k) (2 ^ 2098) h))

pub units-fit : (q k : ℕ) → q < 2 ^ 53 → q * 2 ^ k < 2 ^ 2098 → T (fits binary64 (units binary64 false q k))
units-fit q k a h = subst (λ (x : Float). T (fits binary64 x)) (sym (units-is q k h)) (odd-fits binary64 54 false q k (omega arith) (omega arith) h)

pub bits_are : (q k : ℕ) → 2 ^ 52 ≤ q → q < 2 ^ 53 → k < 2046 → of_bits binary64 (k * 4503599627370496 + q) ≡ units binary64 false q k
bits_are q k a b c =
    let v = units binary64 false q k in let h = fine q k b c in let A = q * 2 ^ k in
    let e : to_bits binary64 v ≡ k * 4503599627370496 + q =
    to_bits-at binary64 v A (units_val binary64 false q k h)
    ∙ ap (λ (x : ℕ). 0 + x * 4503599627370496 + A / 2 ^ x) (size_of q k a b)
    ∙ ap (λ (x : ℕ). 0 + k * 4503599627370496 + x) (mul-div_cancel q (pow_pos k))
    ∙ ap (λ (x : ℕ). x + q) (zero-add (k * 4503599627370496)) in
    ap (λ (x : ℕ). of_bits binary64 x) (sym e) ∙ of_bits-to_bits binary64 v (units-fit q k b h)

-- ---- `join`: M is m or twice m, so that what is left of the power is even
pub room : (M : ℕ) → M + 2 ≤ 2 ^ 54 → M * 2 ^ 52 + 2 ^ 53 ≤ 2 ^ 53 * 2 ^ 53
room M h = omega arith

pub under-room : (n : ℕ) → n + 2 ^ 53 ≤ 2 ^ 53 * 2 ^ 53 → n < 2 ^ 106
under-room n h = omega arith

pub joined : (M k q : ℕ) → 2 ^ 52 ≤ M → M + 2 ≤ 2 ^ 54 → k < 2046 → NearRoot (M * 2 ^ 52) q
    → (k * 4503599627370496 + q < 9218868437227405312) × (of_bits binary64 (k * 4503599627370496 + q) ≡ round_root binary64 (M * 2 ^ (52 + (k + k))))
joined M k q a b c n =
    let lo : 2 ^ 104 ≤ M * 2 ^ 52 = mul-le-mul_right (2 ^ 52) a in
    let hi = room M b in let q-lo = near-lo (M * 2 ^ 52) q lo n in
    let q-hi = near-hi (M * 2 ^ 52) q hi n in (
      omega arith,
      bits_are q k q-lo q-hi c ∙ sym (round-at (M * 2 ^ 52) k q lo (under-room (M * 2 ^ 52) hi) n)
          ∙ ap (λ (x : ℕ). round_root binary64 x)
          (mul_assoc M (2 ^ 52) (2 ^ k * 2 ^ k) ∙ ap (λ (x : ℕ). M * x) (sym (pow-add 2 52 (k + k) ∙ ap (λ (x : ℕ). 2 ^ 52 * x) (pow-add 2 k k)))),
    )

pub even-at : (h : ℕ) → h % 2 ≡ 0 → 52 ≤ h → 52 + (h / 2 - 26 + (h / 2 - 26)) ≡ h
even-at h e l = omega arith

pub odd-at : (h : ℕ) → (h % 2 ≡ 0 → ⊥) → 52 ≤ h → suc (52 + (h / 2 - 26 + (h / 2 - 26))) ≡ h
odd-at h e l = omega arith

pub drop-lt : (h : ℕ) → h < 4000 → h / 2 - 26 < 2046
drop-lt h l = omega arith

pub even-room : (m : ℕ) → m < 2 ^ 53 → m + 2 ≤ 2 ^ 54
even-room m h = omega arith

pub odd-room : (m : ℕ) → m < 2 ^ 53 → 2 * m + 2 ≤ 2 ^ 54
odd-room m h = omega arith

pub odd_low : (m : ℕ) → 2 ^ 52 ≤ m → 2 ^ 52 ≤ 2 * m
odd_low m h = omega arith

abbrev pub Joined : ℕ → ℕ → ℕ → Type 0
Joined m h r = (r < 9218868437227405312) × (of_bits binary64 r ≡ round_root binary64 (m * 2 ^ h))

pub join-even : (m h q : ℕ) → 2 ^ 52 ≤ m → m < 2 ^ 53 → 52 ≤ h → h < 4000 → h % 2 ≡ 0
    → NearRoot (m * 2 ^ 52) q → Joined m h ((h / 2 - 26) * 4503599627370496 + q)
join-even m h q a b c d e n =
    let j = joined m (h / 2 - 26) q a (even-room m b) (drop-lt h d) n in
    (j.0, j.1 ∙ ap (λ (x : ℕ). round_root binary64 (m * 2 ^ x)) (even-at h e c))

pub join-odd : (m h q : ℕ) → 2 ^ 52 ≤ m → m < 2 ^ 53 → 52 ≤ h → h < 4000 → (h % 2 ≡ 0 → ⊥)
    → NearRoot (2 * m * 2 ^ 52) q → Joined m h ((h / 2 - 26) * 4503599627370496 + q)
join-odd m h q a b c d e n =
    let x = 52 + (h / 2 - 26 + (h / 2 - 26)) in
    let j = joined (2 * m) (h / 2 - 26) q (odd_low m a) (odd-room m b) (drop-lt h d) n in (
      j.0,
      j.1 ∙ ap (λ (y : ℕ). round_root binary64 y) (ap (λ (y : ℕ). y * 2 ^ x) (mul_comm 2 m) ∙ mul_assoc m 2 (2 ^ x)
          ∙ ap (λ (y : ℕ). m * y) (sym (pow-succ' 2 x)) ∙ ap (λ (y : ℕ). m * 2 ^ y) (odd-at h e c)),
    )

-- ---- the value of the bits b, which are neither 0 nor those of an infinity or more

plus : (b : ℕ) → b < 9218868437227405312 → leb (top binary64) b ≡ false
plus b h = is_false (leb (top binary64) b) (not_T (leb (top binary64) b) (λ t. not-le_of_lt (lt_of_lt_of_le h (lit≤ tt)) (leb→le (top binary64) b t)))

pub fields : (b : ℕ) → b < 9218868437227405312 → of_bits binary64 b ≡ of_fields binary64 false (b / 4503599627370496) (b % 4503599627370496)
unfolding of_bits
fields b h =
    ap (λ (s : Bool). of_fields binary64 s (b % top binary64 / 4503599627370496) (b % 4503599627370496)) (plus b h)
    ∙ ap (λ (x : ℕ). of_fields binary64 false (x / 4503599627370496) (b % 4503599627370496)) (mod-eq_of_lt (lt_of_lt_of_le h (lit≤ tt)))

pub exponent_lt : (b : ℕ) → b < 9218868437227405312 → b / 4503599627370496 < 2047
exponent_lt b h = omega arith

not-ones : (x : ℕ) → suc x < 2047 → eqb (suc x) 2047 ≡ false
not-ones x h = is_false (eqb (suc x) 2047) (not_T (eqb (suc x) 2047) (λ t. omega (arith, eqb→eq (suc x) 2047 t)))

pub low_value : (t : ℕ) → HasValue (of_fields binary64 false 0 t) false (t * 2 ^ 0) (2 ^ 1074)
unfolding of_fields
low_value t = odd_sign 53 false t 0 1074

pub high_value : (x t : ℕ) → suc x < 2047 → HasValue (of_fields binary64 false (suc x) t) false ((4503599627370496 + t) * 2 ^ x) (2 ^ 1074)
unfolding of_fields
high_value x t h =
    subst (λ (b : Bool). HasValue (cond b (cond (eqb t 0) (inf false) nan) (odd 53 false (4503599627370496 + t) x 1074)) false
    ((4503599627370496 + t) * 2 ^ x) (2 ^ 1074)) (sym (not-ones x h))
    (odd_sign 53 false (4503599627370496 + t) x 1074)

-- `sqrt` of the bits of a subnormal, whose digits t are not 0
pub sqrt-low : (b : ℕ) → 0 < b → b < 9218868437227405312 → b / 4503599627370496 ≡ 0
    → sqrt binary64 (of_bits binary64 b) ≡ round_root binary64 (b % 4503599627370496 * 2 ^ 1074)
sqrt-low b p h e =
    let t = b % 4503599627370496 in
    ap (λ (x : Float). sqrt binary64 x) (fields b h ∙ ap (λ (x : ℕ). of_fields binary64 false x t) e)
    ∙ sqrt-at binary64 (of_fields binary64 false 0 t) (t * 2 ^ 0) (subst (λ (x : ℕ). 0 < x) (sym (mul-one t)) (omega arith)) (low_value t)
    ∙ ap (λ (x : ℕ). round_root binary64 (x * 2 ^ 1074)) (mul-one t)

pub sqrt-high : (b : ℕ) → b < 9218868437227405312 → (b / 4503599627370496 ≡ 0 → ⊥)
    → sqrt binary64 (of_bits binary64 b) ≡ round_root binary64 ((b % 4503599627370496 + 4503599627370496) * 2 ^ (b / 4503599627370496 + 1073))
sqrt-high b h f = ap (λ (x : Float). sqrt binary64 x) (fields b h) ∙ go (b / 4503599627370496) (exponent_lt b h) f
  where
    go : (x : ℕ) → x < 2047 → (x ≡ 0 → ⊥) → sqrt binary64 (of_fields binary64 false x (b % 4503599627370496))
        ≡ round_root binary64 ((b % 4503599627370496 + 4503599627370496) * 2 ^ (x + 1073))
    go zero l n = absurd (n refl)
    go (suc x) l n =
        let t = b % 4503599627370496 in
        sqrt-at binary64 (of_fields binary64 false (suc x) t) ((4503599627370496 + t) * 2 ^ x) (mul-pos (omega arith) (pow_pos x)) (high_value x t l)
        ∙ ap (λ (y : ℕ). round_root binary64 y)
        (mul_assoc (4503599627370496 + t) (2 ^ x) (2 ^ 1074) ∙ ap (λ (y : ℕ). (4503599627370496 + t) * y) (sym (pow-add 2 x 1074))
        ∙ ap (λ (y : ℕ). (4503599627370496 + t) * 2 ^ y) (omega arith) ∙ ap (λ (y : ℕ). y * 2 ^ (suc x + 1073)) (add_comm 4503599627370496 t))

-- a subnormal's digits shifted up
pub record Shifted (t z : ℕ) : Type 0 where
  pub z-lo : 11 ≤ z
  pub z-hi : z ≤ 63
  pub lo : 2 ^ 52 ≤ (t * 2 ^ (z - 11)) % 2 ^ 64
  pub hi : (t * 2 ^ (z - 11)) % 2 ^ 64 < 2 ^ 53
  pub same : (t * 2 ^ (z - 11)) % 2 ^ 64 * 2 ^ (1085 - z) ≡ t * 2 ^ 1074

pub shifted : (t : ℕ) → 0 < t → t < 2 ^ 52 → Shifted t (count_leading_zeros 64 t)
shifted t p h =
    let k = leading_top 64 t p (lt_of_lt_of_le h (lit≤ tt)) in
    go k.0 (count_leading_zeros 64 t) k.1 k.2 k.3
  where
    place : (j : ℕ) → 2 ^ j ≤ t → j < 52
    place j a = lt_of_not-le (λ (g : 52 ≤ j). not-le_of_lt (lt_of_le_of_lt a h) (pow_mono g))

    go : (j z : ℕ) → z + suc j ≡ 64 → 2 ^ j ≤ t → t < 2 ^ suc j → Shifted t z
    go j z s a b =
        let l = place j a in
        let exact : (t * 2 ^ (z - 11)) % 2 ^ 64 ≡ t * 2 ^ (z - 11) = shl_exact (suc j) (z - 11) 64 b (omega arith) in
        let lo' : 2 ^ 52 ≤ t * 2 ^ (z - 11) =
        le_trans (le_of_eq (ap (λ (x : ℕ). 2 ^ x) (up_to j z s l) ∙ pow-add 2 j (z - 11))) (mul-le-mul_right (2 ^ (z - 11)) a) in
        let hi' : t * 2 ^ (z - 11) < 2 ^ 53 = subst (λ (x : ℕ). t * 2 ^ (z - 11) < 2 ^ x) (up-to' j z s l) (shl_lt (suc j) (z - 11) b) in
        let same' : t * 2 ^ (z - 11) * 2 ^ (1085 - z) ≡ t * 2 ^ 1074 = mul_assoc t (2 ^ (z - 11)) (2 ^ (1085 - z))
        ∙ ap (λ (x : ℕ). t * x) (sym (pow-add 2 (z - 11) (1085 - z))) ∙ ap (λ (x : ℕ). t * 2 ^ x) (whole j z s l) in
        record {
          z-lo = omega arith;
          z-hi = omega arith;
          lo = subst (λ (x : ℕ). 2 ^ 52 ≤ x) (sym exact) lo';
          hi = subst (λ (x : ℕ). x < 2 ^ 53) (sym exact) hi';
          same = ap (λ (x : ℕ). x * 2 ^ (1085 - z)) exact ∙ same';
        }
      where
        up_to : (j z : ℕ) → z + suc j ≡ 64 → j < 52 → 52 ≡ j + (z - 11)
        up_to j z s l = omega arith

        up-to' : (j z : ℕ) → z + suc j ≡ 64 → j < 52 → suc j + (z - 11) ≡ 53
        up-to' j z s l = omega arith

        whole : (j z : ℕ) → z + suc j ≡ 64 → j < 52 → z - 11 + (1085 - z) ≡ 1074
        whole j z s l = omega arith
