-- A double that is finite and above 0, in units of 2 ^ -1074, and its root: `root-units`. With v = n * 4 ^ k
-- the value in units of the square 2 ^ -2148, for an n of 105 or 106 digits, `sqrt` is q * 2 ^ k units, q the whole number nearest to the root of n.
use Rattle.std.specs.Prelude.{◌≡◌, refl, Bool, true, false, ◌&&◌, ℕ, zero, suc, ◌+◌, ◌-◌, ◌*◌, ◌/◌, ◌%◌, ◌^◌, ◌≤◌, ◌<◌, ℤ, pos, negsuc, T, eqb, leb, ltb, Float}
use Rattle.std.proofs.Common.{sym, ap, ◌∙◌, subst, le_trans, le_of_eq, lt_of_lt_of_le, lt_of_le_of_lt, mul_assoc, mul_left_comm, mul-le-mul_right, mul-pos}
use Rattle.std.proofs.Common.{mul-le-mul_left, mul-one, one-mul, lt_of_not-le, not-le_of_lt, lt_irrefl, zero-mul, zero-lt-suc, le_of_suc-le-suc, arith, leb→le}
use Rattle.std.proofs.Common.{ltb→lt, lit≤, pow-add, pow_pos, pow_mono, shl_lt}
use Rattle.std.proofs.Math.Nat.{pow-succ'}
use Rattle.std.proofs.Math.Decide.{ℕ_discrete}
use Rattle.std.proofs.Math.Pow.{pow-lt}
use Rattle.std.specs.Float.{nan, inf, fin, binary64}
use Rattle.std.specs.Float.Ieee.{up, down, size, units, fits}
use Rattle.std.specs.Float.Ieee.Digits.{size-lt, size-le, size_reaches}
use Rattle.std.specs.Float.Ieee.Fits.{up_pos, and_l, and_r}
use Rattle.std.specs.Float.Ieee.Exact.{HasValue, units_val}
use Rattle.std.specs.Float.Ieee.Positive.{positive}
use Rattle.arith.specs.Root.{round_root, sqrt}
use Rattle.arith.specs.Answered.{NearRoot}
use Rattle.arith.specs.Laws.RootLaws.{round-at, near-lo, near-hi, sqrt-at, near-exists}
use Rattle.arith.specs.Laws.RootBits.{fine, units-fit, room, under-room, even-at, odd-at, drop-lt, even-room, odd-room, odd_low}

-- ---- a finite double is a whole number m * 2 ^ j of units, m of at most 53 digits
pub record Units (x : Float) (s : Bool) : Type 0 where
  pub m : ℕ
  pub j : ℕ
  pub digits : m < 2 ^ 53
  pub scale : j ≤ 2098
  pub value : HasValue x s (m * 2 ^ j) (2 ^ 1074)

whole-exponent : (m k : ℕ) → 0 < m → m * 2 ^ k < 2 ^ 1024 * 1 → k < 1024
whole-exponent m k p h =
    lt_of_not-le (λ (g : 1024 ≤ k). not-le_of_lt h
    (le_trans (lit≤ tt) (le_trans (pow_mono g) (le_trans (le_of_eq (sym (one-mul (2 ^ k)))) (mul-le-mul_right (2 ^ k) p)))))

part-exponent : (k : ℕ) → 2 ^ suc k ≤ 2 ^ 1074 → suc k ≤ 1074
part-exponent k h =
    le_of_suc-le-suc (lt_of_not-le (λ (g : 1075 ≤ suc k). not-le_of_lt (lt_of_le_of_lt h (pow-lt {i = 1074} {j = 1075} (lit≤ tt))) (pow_mono g)))

units_of : (s : Bool) (m : ℕ) (e : ℤ) → 0 < m → m < 2 ^ 53 → down e ≤ 2 ^ 1074 → m * up e < 2 ^ 1024 * down e → Units (fin s m e) s
units_of s m (pos k) p d l h = record {
  m = m;
  j = k + 1074;
  digits = d;
  scale = let g = whole-exponent m k p h in omega arith;
  value = (refl, mul_assoc m (2 ^ k) (2 ^ 1074) ∙ ap (λ (x : ℕ). m * x) (sym (pow-add 2 k 1074)) ∙ sym (mul-one (m * 2 ^ (k + 1074))));
}
units_of s m (negsuc k) p d l h =
    let g = part-exponent k l in
    record {
      m = m;
      j = 1074 - suc k;
      digits = d;
      scale = omega arith;
      value = (
        refl,
        ap (λ (x : ℕ). x * 2 ^ 1074) (mul-one m) ∙ ap (λ (x : ℕ). m * 2 ^ x) (sym (back k g))
            ∙ ap (λ (x : ℕ). m * x) (pow-add 2 (1074 - suc k) (suc k)) ∙ sym (mul_assoc m (2 ^ (1074 - suc k)) (2 ^ suc k)),
      );
    }
  where
    back : (k : ℕ) → suc k ≤ 1074 → 1074 - suc k + suc k ≡ 1074
    back k h = omega arith

pub in-units : (s : Bool) (m : ℕ) (e : ℤ) → T (fits binary64 (fin s m e)) → Units (fin s m e) s
unfolding fits
in-units s zero e f = record {
  m = 0;
  j = 0;
  digits = pow_pos 53;
  scale = lit≤ tt;
  value = (refl, ap (λ (x : ℕ). x * 2 ^ 1074) (zero-mul (up e)) ∙ sym (zero-mul (down e)));
}
in-units s (suc m) e f =
    let odd = eqb (suc m % 2) 1 in let few = ltb (suc m) (2 ^ 53) in
    let fine = leb (down e) (2 ^ 1074) in let below = ltb (suc m * up e) (2 ^ 1024 * down e) in
    let f' = and_l (odd && few && fine) below f in let f'' = and_l (odd && few) fine f' in
    units_of s (suc m) e (zero-lt-suc m) (ltb→lt (suc m) (2 ^ 53) (and_r odd few f'')) (leb→le (down e) (2 ^ 1074) (and_r (odd && few) fine f'))
    (ltb→lt (suc m * up e) (2 ^ 1024 * down e) (and_r (odd && few && fine) below f))

-- ---- the root
pub record RootUnits (x : Float) : Type 0 where
  pub A : ℕ
  pub n : ℕ
  pub k : ℕ
  pub q : ℕ
  pub value : HasValue x false A (2 ^ 1074)
  pub square : A * 2 ^ 1074 ≡ n * (2 ^ k * 2 ^ k)
  pub n-low : 2 ^ 104 ≤ n
  pub near : NearRoot n q
  pub q-low : 2 ^ 52 ≤ q
  pub q-high : q < 2 ^ 53
  pub root : HasValue (sqrt binary64 x) false (q * 2 ^ k) (2 ^ 1074)
  pub root-fits : T (fits binary64 (sqrt binary64 x))

-- x is A units, and that times 2 ^ 1074 is M * 2 ^ 52 times 4 ^ k, as `join` has it
rooted-at : (x : Float) (A M k : ℕ) → HasValue x false A (2 ^ 1074) → sqrt binary64 x ≡ round_root binary64 (A * 2 ^ 1074)
    → A * 2 ^ 1074 ≡ M * 2 ^ 52 * (2 ^ k * 2 ^ k) → 2 ^ 52 ≤ M → M + 2 ≤ 2 ^ 54 → k < 2046 → RootUnits x
rooted-at x A M k v s e a b c =
    let n = M * 2 ^ 52 in
    let lo : 2 ^ 104 ≤ n = mul-le-mul_right (2 ^ 52) a in
    let hi = room M b in let w = near-exists n (omega arith) in let q = w.0 in let h = w.1 in
    let q-hi = near-hi n q hi h in
    let is : sqrt binary64 x ≡ units binary64 false q k = s ∙ ap (λ (z : ℕ). round_root binary64 z) e ∙ round-at n k q lo (under-room n hi) h in
    record {
      A = A;
      n = n;
      k = k;
      q = q;
      value = v;
      square = e;
      n-low = lo;
      near = h;
      q-low = near-lo n q lo h;
      q-high = q-hi;
      root = subst (λ (z : Float). HasValue z false (q * 2 ^ k) (2 ^ 1074)) (sym is) (units_val binary64 false q k (fine q k q-hi c));
      root-fits = subst (λ (z : Float). T (fits binary64 z)) (sym is) (units-fit q k q-hi (fine q k q-hi c));
    }

-- ---- any m * 2 ^ j units with an m of at most 53 digits, as every f64 that is finite and above 0 is
scaled : (m s : ℕ) → s ≤ 53 → 2 ^ s ≤ 2 * m → m < 2 ^ s → (2 ^ 52 ≤ m * 2 ^ (53 - s)) × (m * 2 ^ (53 - s) < 2 ^ 53)
scaled m s l a b = (low_part, subst (λ (z : ℕ). m * 2 ^ (53 - s) < 2 ^ z) (fill s l) (shl_lt s (53 - s) b))
  where
    fill : (s : ℕ) → s ≤ 53 → s + (53 - s) ≡ 53
    fill s l = omega arith

    low_part : 2 ^ 52 ≤ m * 2 ^ (53 - s)
    low_part =
        omega (
          arith,
          le_trans (le_of_eq (ap (λ (z : ℕ). 2 ^ z) (sym (fill s l)) ∙ pow-add 2 s (53 - s)))
              (le_trans (mul-le-mul_right (2 ^ (53 - s)) a) (le_of_eq (mul_assoc 2 m (2 ^ (53 - s))))),
        )

rooted-even : (x : Float) (A M h : ℕ) → HasValue x false A (2 ^ 1074) → sqrt binary64 x ≡ round_root binary64 (A * 2 ^ 1074)
    → A * 2 ^ 1074 ≡ M * 2 ^ h → 2 ^ 52 ≤ M → M < 2 ^ 53 → 52 ≤ h → h < 4000 → h % 2 ≡ 0 → RootUnits x
rooted-even x A M h v s e a b c d p =
    let k = h / 2 - 26 in
    rooted-at x A M k v s
    (e ∙ ap (λ (z : ℕ). M * 2 ^ z) (sym (even-at h p c)) ∙ ap (λ (z : ℕ). M * z) (pow-add 2 52 (k + k) ∙ ap (λ (z : ℕ). 2 ^ 52 * z) (pow-add 2 k k))
    ∙ sym (mul_assoc M (2 ^ 52) (2 ^ k * 2 ^ k))) a (even-room M b) (drop-lt h d)

rooted-odd : (x : Float) (A M h : ℕ) → HasValue x false A (2 ^ 1074) → sqrt binary64 x ≡ round_root binary64 (A * 2 ^ 1074)
    → A * 2 ^ 1074 ≡ M * 2 ^ h → 2 ^ 52 ≤ M → M < 2 ^ 53 → 52 ≤ h → h < 4000 → (h % 2 ≡ 0 → ⊥) → RootUnits x
rooted-odd x A M h v s e a b c d p =
    let k = h / 2 - 26 in
    rooted-at x A (2 * M) k v s
    (e ∙ ap (λ (z : ℕ). M * 2 ^ z) (sym (odd-at h p c)) ∙ ap (λ (z : ℕ). M * z) (pow-succ' 2 (52 + (k + k)))
    ∙ mul_left_comm M 2 (2 ^ (52 + (k + k))) ∙ sym (mul_assoc 2 M (2 ^ (52 + (k + k))))
    ∙ ap (λ (z : ℕ). 2 * M * z) (pow-add 2 52 (k + k) ∙ ap (λ (z : ℕ). 2 ^ 52 * z) (pow-add 2 k k))
    ∙ sym (mul_assoc (2 * M) (2 ^ 52) (2 ^ k * 2 ^ k))) (odd_low M a)
    (odd-room M b) (drop-lt h d)

rooted-units : (x : Float) (m j : ℕ) → 0 < m → m < 2 ^ 53 → j ≤ 2098 → HasValue x false (m * 2 ^ j) (2 ^ 1074) → RootUnits x
rooted-units x m j p q l val =
    let A = m * 2 ^ j in let s = size m in
    let s-hi : s ≤ 53 = size-le m 53 q in
    let sc = scaled m s s-hi (top_digit m s refl (size-pos m p)) (size-lt m) in
    let M = m * 2 ^ (53 - s) in let h = j + 1021 + s in
    let e : A * 2 ^ 1074 ≡ M * 2 ^ h = mul_assoc m (2 ^ j) (2 ^ 1074)
    ∙ ap (λ (z : ℕ). m * z) (sym (pow-add 2 j 1074) ∙ ap (λ (z : ℕ). 2 ^ z) (omega arith) ∙ pow-add 2 (53 - s) h)
    ∙ sym (mul_assoc m (2 ^ (53 - s)) (2 ^ h)) in
    go A M h (ℕ_discrete (h % 2) 0) val (sqrt-at binary64 x A (mul-pos p (pow_pos j)) val) e sc.0 sc.1 (omega arith) (omega arith)
  where
    size-pos : (m : ℕ) → 0 < m → 0 < size m
    size-pos m p = lt_of_not-le (λ (g : size m ≤ 0). not-le_of_lt (lt_of_lt_of_le (size-lt m) (pow_mono g)) p)

    top_digit : (m s : ℕ) → size m ≡ s → 0 < s → 2 ^ s ≤ 2 * m
    top_digit m zero e h = absurd (lt_irrefl 0 h)
    top_digit m (suc t) e h = le_trans (le_of_eq (pow-succ' 2 t)) (mul-le-mul_left 2 (size_reaches m t (le_of_eq (sym e))))

    go : (A M h : ℕ) → Dec (h % 2 ≡ 0) → HasValue x false A (2 ^ 1074) → sqrt binary64 x ≡ round_root binary64 (A * 2 ^ 1074)
        → A * 2 ^ 1074 ≡ M * 2 ^ h → 2 ^ 52 ≤ M → M < 2 ^ 53 → 52 ≤ h → h < 4000 → RootUnits x
    go A M h (yes z) v s e a b c d = rooted-even x A M h v s e a b c d z
    go A M h (no z) v s e a b c d = rooted-odd x A M h v s e a b c d z

pub root-units : (x : Float) → T (fits binary64 x) → T (positive x) → RootUnits x
root-units nan f p = absurd p
root-units (inf s) f p = absurd p
root-units (fin true m e) f p = absurd p
root-units (fin false zero e) f p = absurd p
root-units (fin false (suc m) e) f p =
    let u = in-units false (suc m) e f in
    rooted-units (fin false (suc m) e) u.m u.j (above u.m u.j u.value.1) u.digits u.scale u.value
  where
    above : (n j : ℕ) → suc m * up e * 2 ^ 1074 ≡ n * 2 ^ j * down e → 0 < n
    above zero j h =
        absurd (lt_irrefl 0 (subst (λ (x : ℕ). 0 < x) (h ∙ ap (λ (x : ℕ). x * down e) (zero-mul (2 ^ j)) ∙ zero-mul (down e))
        (mul-pos (mul-pos (zero-lt-suc m) (up_pos e)) (pow_pos 1074))))
    above (suc n) j h = zero-lt-suc n
