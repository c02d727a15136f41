-- What `root`, `round_root` and `sqrt` of `specs/Root.antt` give. `root_is`: root n is the largest r with r * r ≤ n.
-- `round-at`: for an n of 105 or 106 digits whose root is nearest to q, `round_root` of n * 4 ^ k is q * 2 ^ k units.
use Rattle.std.specs.Prelude.{◌≡◌, Bool, true, false, not, cond, T, leb, Float}
use Rattle.std.proofs.Common.{sym, ap, ◌∙◌, subst, le_trans, le_of_eq, le_of_suc-le-suc, lt_of_le_of_lt, lt_of_lt_of_le, lt_of_not-le, not-le_of_lt}
use Rattle.std.proofs.Common.{le_antisymm, zero-mul, lt_irrefl, mul_assoc, mul-pos, mul-le-mul_right, mul-lt-mul_of_pos_right, mul-div_cancel}
use Rattle.std.proofs.Common.{lt_of_mul-lt-mul_right, suc-add, arith, leb→le, pow-add, pow_pos, pow_mono}
use Prim.Native.Nat.{ℕ, zero, suc, ◌+◌, ◌-◌, ◌*◌, ◌/◌, ◌^◌, ◌≤◌, ◌<◌, compare, Ordering}
use Rattle.std.proofs.Math.Nat.{mul-mul-mul_comm, eq_of_mul-eq-mul_right, le_dest}
use Rattle.std.proofs.Math.Dec.{nleb→lt}
use Rattle.std.specs.Float.{nan, inf, fin, Format, binary64}
use Rattle.std.specs.Float.Ieee.{low, up, down, size, units, nearest}
use Rattle.std.specs.Float.Ieee.Digits.{size-lt, size-le}
use Rattle.std.specs.Float.Ieee.Fits.{down_pos}
use Rattle.std.specs.Float.Ieee.Exact.{HasValue}
use Rattle.exact.specs.Grid.{Cmp, cmp}
use Rattle.arith.specs.Root.{root_in, root, round_root, sqrt}
use Rattle.arith.specs.Answered.{NearRoot}
use Rattle.arith.specs.Laws.RootHalves.{square-lt}

-- ---- `root`

-- r with its last binary digit raised where the square still is at most n
abbrev raise : ℕ → ℕ → ℕ
raise n r = cond (leb ((r + 1) * (r + 1)) n) (r + 1) r

raise-is : (n r : ℕ) → 2 * r * (2 * r) ≤ n → n < (2 * r + 2) * (2 * r + 2)
    → (raise n (2 * r) * raise n (2 * r) ≤ n) × (n < suc (raise n (2 * r)) * suc (raise n (2 * r)))
raise-is n r a b = go (leb ((2 * r + 1) * (2 * r + 1)) n) (leb→le ((2 * r + 1) * (2 * r + 1)) n) (nleb→lt ((2 * r + 1) * (2 * r + 1)) n)
  where
    go : (t : Bool) → (T t → (2 * r + 1) * (2 * r + 1) ≤ n) → (T (not t) → n < (2 * r + 1) * (2 * r + 1))
        → (cond t (2 * r + 1) (2 * r) * cond t (2 * r + 1) (2 * r) ≤ n) × (n < suc (cond t (2 * r + 1) (2 * r)) * suc (cond t (2 * r + 1) (2 * r)))
    go true h k = (h tt, omega arith)
    go false h k = (a, let z = k tt in omega arith)

fewer : (d n : ℕ) → n < 2 ^ (suc d + suc d) → n / 4 < 2 ^ (d + d)
fewer d n h = omega (arith, subst (λ (x : ℕ). n < x) (ap (λ (x : ℕ). 2 ^ x) (omega arith) ∙ pow-add 2 (d + d) 2) h)

root_in-is : (d n : ℕ) → n < 2 ^ (d + d) → (root_in d n * root_in d n ≤ n) × (n < suc (root_in d n) * suc (root_in d n))
unfolding root_in
root_in-is zero n h = (omega arith, omega arith)
root_in-is (suc d) n h =
    let ih = root_in-is d (n / 4) (fewer d n h) in
    raise-is n (root_in d (n / 4)) (omega (arith, ih.0)) (omega (arith, ih.1))

pub root_is : (n : ℕ) → (root n * root n ≤ n) × (n < suc (root n) * suc (root n))
unfolding root
root_is n = root_in-is (size n) n (lt_of_lt_of_le (size-lt n) (pow_mono (omega arith)))

-- ---- the root rounded

-- of the two numbers around the root, the nearer
near-low : (n w : ℕ) → w * w ≤ n → 4 * n < (2 * w + 1) * (2 * w + 1) → 0 < n → NearRoot n w
near-low n zero a b h = (omega arith, omega arith)
near-low n (suc w) a b h = (omega arith, omega arith)

near-high : (n w : ℕ) → n < suc w * suc w → (2 * w + 1) * (2 * w + 1) < 4 * n → NearRoot n (suc w)
near-high n w a b = (omega arith, omega arith)

-- there is one nearest number
no_gap : (n r d : ℕ) → NearRoot n (suc r + d) → NearRoot n r → ⊥
no_gap n r d a b = omega (arith, a.0, b.1)

near_le : (n q r : ℕ) → NearRoot n q → NearRoot n r → q ≤ r
near_le n q r a b = le_of_suc-le-suc (lt_of_not-le (λ (g : suc r ≤ q). no_gap n r (le_dest g).0 (subst (λ (x : ℕ). NearRoot n x) (sym (le_dest g).1) a) b))

pub near_same : (n q r : ℕ) → NearRoot n q → NearRoot n r → q ≡ r
near_same n q r a b = le_antisymm (near_le n q r a b) (near_le n r q b a)

-- what `round_root` chooses, at n * p for a p above 0
chosen : (n p : ℕ) → 0 < p → 0 < n → NearRoot n (nearest (root n) (compare (4 * (n * p)) ((2 * root n + 1) * (2 * root n + 1) * p)))
chosen n p P N = go (compare (4 * (n * p)) ((2 * root n + 1) * (2 * root n + 1) * p)) (cmp (4 * (n * p)) ((2 * root n + 1) * (2 * root n + 1) * p))
  where
    go : (o : Ordering) → Cmp o (4 * (n * p)) ((2 * root n + 1) * (2 * root n + 1) * p) → NearRoot n (nearest (root n) o)
    go Ordering.lt c = near-low n (root n) (root_is n).0 (lt_of_mul-lt-mul_right p (lt_of_le_of_lt (le_of_eq (mul_assoc 4 n p)) c)) N
    go Ordering.eq c = absurd (omega (arith, eq_of_mul-eq-mul_right p P (4 * n) ((2 * (root n) + 1) * (2 * (root n) + 1)) (mul_assoc 4 n p ∙ c)))
    go Ordering.gt c = near-high n (root n) (root_is n).1 (lt_of_mul-lt-mul_right p (lt_of_lt_of_le c (le_of_eq (sym (mul_assoc 4 n p)))))

pub near-exists : (n : ℕ) → 0 < n → (q : ℕ) × NearRoot n q
near-exists n N = (nearest (root n) (compare (4 * (n * 1)) ((2 * root n + 1) * (2 * root n + 1) * 1)), chosen n 1 (pow_pos 0) N)

choice : (n p q : ℕ) → 0 < p → 0 < n → NearRoot n q → nearest (root n) (compare (4 * (n * p)) ((2 * root n + 1) * (2 * root n + 1) * p)) ≡ q
choice n p q P N h = near_same n (nearest (root n) (compare (4 * (n * p)) ((2 * root n + 1) * (2 * root n + 1) * p))) q (chosen n p P N) h

-- ---- the digits of the root
size_is : (n j : ℕ) → 2 ^ j ≤ n → n < 2 ^ suc j → size n ≡ suc j
size_is n j a b = le_antisymm (size-le n (suc j) b) (lt_of_not-le (λ (g : size n ≤ j). not-le_of_lt (lt_of_lt_of_le (size-lt n) (pow_mono g)) a))

-- the square of 2 ^ (j + k)
square : (j k : ℕ) → 2 ^ (j + k) * 2 ^ (j + k) ≡ 2 ^ j * 2 ^ j * (2 ^ k * 2 ^ k)
square j k = ap (λ (x : ℕ). x * x) (pow-add 2 j k) ∙ mul-mul-mul_comm (2 ^ j) (2 ^ k) (2 ^ j) (2 ^ k)

root-size : (n j k : ℕ) → 2 ^ j * 2 ^ j ≤ n → n < 2 ^ suc j * 2 ^ suc j → size (root (n * (2 ^ k * 2 ^ k))) ≡ suc (j + k)
root-size n j k a b =
    let p = 2 ^ k * 2 ^ k in
    let P : 0 < p = mul-pos (pow_pos k) (pow_pos k) in
    let r = root (n * p) in
    size_is r (j + k)
    (le_of_suc-le-suc (square-lt (2 ^ (j + k)) (suc r) (lt_of_le_of_lt (le_trans (le_of_eq (square j k)) (mul-le-mul_right p a)) (root_is (n * p)).1)))
    (subst (λ (x : ℕ). r < 2 ^ x) (suc-add j k) (square-lt r (2 ^ (suc j + k))
    (lt_of_le_of_lt (root_is (n * p)).0 (lt_of_lt_of_le (mul-lt-mul_of_pos_right b P) (le_of_eq (sym (square (suc j) k)))))))

pub round-at : (n k q : ℕ) → 2 ^ 104 ≤ n → n < 2 ^ 106 → NearRoot n q → round_root binary64 (n * (2 ^ k * 2 ^ k)) ≡ units binary64 false q k
unfolding round_root
round-at n k q a b h =
    let p = 2 ^ k * 2 ^ k in
    let P : 0 < p = mul-pos (pow_pos k) (pow_pos k) in
    let v = n * p in
    let e : size (root v) - 53 ≡ k = ap (λ (x : ℕ). x - 53) (root-size n 52 k a b) ∙ (omega arith) in
    ap (λ (x : ℕ). units binary64 false (nearest (root (v / (2 ^ x * 2 ^ x)))
    (compare (4 * v) ((2 * root (v / (2 ^ x * 2 ^ x)) + 1) * (2 * root (v / (2 ^ x * 2 ^ x)) + 1) * (2 ^ x * 2 ^ x)))) x) e
    ∙ ap (λ (x : ℕ). units binary64 false (nearest (root x) (compare (4 * v) ((2 * root x + 1) * (2 * root x + 1) * p))) k) (mul-div_cancel n P)
    ∙ ap (λ (x : ℕ). units binary64 false x k) (choice n p q P (omega arith) h)

-- ---- how large q is
pub near-lo : (n q : ℕ) → 2 ^ 104 ≤ n → NearRoot n q → 2 ^ 52 ≤ q
near-lo n q a h = le_of_suc-le-suc (square-lt (2 ^ 52) (suc q) (omega (arith, h.1)))

too-big : (n B d : ℕ) → 1 ≤ B → n + B ≤ B * B → (B + d) * (B + d) < n + (B + d) → ⊥
too-big n B d o a h = let z = mul-le-mul_right d o in omega arith

pub near-hi : (n q : ℕ) → n + 2 ^ 53 ≤ 2 ^ 53 * 2 ^ 53 → NearRoot n q → q < 2 ^ 53
near-hi n q a h =
    lt_of_not-le (λ (g : 2 ^ 53 ≤ q). too-big n (2 ^ 53) (le_dest g).0 (pow_pos 53) a (subst (λ (x : ℕ). x * x < n + x) (sym (le_dest g).1) h.0))

-- ---- `sqrt` of a value that is known as a number of units
no_zero : (A d : ℕ) (e : ℕ) → 0 < A → 0 < d → 0 * e ≡ A * d → ⊥
no_zero A d e h k p = lt_irrefl 0 (subst (λ (x : ℕ). 0 < x) (sym p ∙ zero-mul e) (mul-pos h k))

pub sqrt-at : (f : Format) (x : Float) (A : ℕ) → 0 < A → HasValue x false A (2 ^ low f) → sqrt f x ≡ round_root f (A * 2 ^ low f)
unfolding sqrt
sqrt-at f nan A h v = absurd v
sqrt-at f (inf s) A h v = absurd v
sqrt-at f (fin s zero e) A h v = absurd (no_zero A (down e) (2 ^ low f) h (down_pos e) (ap (λ (x : ℕ). x * 2 ^ low f) (sym (zero-mul (up e))) ∙ v.1))
sqrt-at f (fin s (suc m) e) A h v =
    ap (λ (b : Bool). cond b nan (round_root f (suc m * up e * 2 ^ low f / down e * 2 ^ low f))) v.0
    ∙ ap (λ (x : ℕ). round_root f (x * 2 ^ low f)) (ap (λ (x : ℕ). x / down e) v.1 ∙ mul-div_cancel A (down_pos e))
