-- How far `round` goes: of num / den, in whole numbers. g is the result in units of the format's least value, 2 ^ -low.
use Rattle.std.specs.Prelude.{◌≡◌, ◌⊎◌, not, T, eqb}
use Rattle.std.proofs.Common.{sym, subst, inl, inr, le_trans, le_of_eq, mul-le-mul_right, mul-pos, div-add-mod', mod-lt, div-mul-le_self, eq-zero-or-pos, arith}
use Rattle.std.proofs.Common.{leb→le, eqb→eq, pow-add, pow_pos}
use Prim.Native.Nat.{ℕ, ◌+◌, ◌-◌, ◌*◌, ◌/◌, ◌%◌, ◌^◌, ◌≤◌, ◌<◌, compare, Ordering}
use Rattle.std.proofs.Math.Dec.{is_le, compare_is_eq, nleb→lt, eqb_refl}
use Rattle.std.proofs.Math.Arith.{lt_of_le-ne}
use Rattle.std.specs.Float.Ieee.{size, nearest}
use Rattle.std.specs.Float.Ieee.Digits.{size_reaches}
use Rattle.std.specs.Float.Ieee.Nearest.{closest}
use Rattle.std.specs.Float.Ieee.Order.{drop, kept}

-- what `compare` says
abbrev pub Cmp : Ordering → ℕ → ℕ → Type 0
Cmp Ordering.lt a b = a < b
Cmp Ordering.eq a b = a ≡ b
Cmp Ordering.gt a b = b < a

pub cmp : (a b : ℕ) → Cmp (compare a b) a b
cmp a b = go (compare a b) (leb→le a b) (nleb→lt a b) (eqb→eq a b) (λ (e : a ≡ b). subst (λ (x : ℕ). T (eqb a x)) e (eqb_refl a))
  where
    go : (o : Ordering) → (T (is_le o) → a ≤ b) → (T (not (is_le o)) → b < a) → (T (compare_is_eq o) → a ≡ b) → (a ≡ b → T (compare_is_eq o)) → Cmp o a b
    go Ordering.lt h k e n = lt_of_le-ne (h tt) n
    go Ordering.eq h k e n = e tt
    go Ordering.gt h k e n = k tt

-- c * u is within u / 2 of n
abbrev pub Half : ℕ → ℕ → ℕ → Type 0
Half n u c = (c * u * 2 ≤ n * 2 + u) × (n * 2 ≤ c * u * 2 + u)

parity : (q : ℕ) → q % 2 ≤ 1
parity q = omega arith

near-half : (n u q r : ℕ) (o : Ordering) → q * u + r ≡ n → r < u → Cmp o (r * 2) u → Half n u (nearest q o)
near-half n u q r Ordering.lt e l c = (omega arith, omega arith)
near-half n u q r Ordering.eq e l c = let p = mul-le-mul_right u (parity q) in (omega arith, omega arith)
near-half n u q r Ordering.gt e l c = (omega arith, omega arith)

pub closest-near : (n u : ℕ) → 0 < u → Half n u (closest n u)
closest-near n u U = near-half n u (n / u) (n % u) (compare (n % u * 2) u) (div-add-mod' n u) (mod-lt n U) (cmp (n % u * 2) u)

-- 2 ^ drop is 1, or at most the fraction's whole part over 2 ^ (p - 1)
drop_le : (p w : ℕ) → 0 < p → 2 ^ (size w - p) * 2 ^ (p - 1) ≤ w + 2 ^ (p - 1)
drop_le p w P = go (eq-zero-or-pos (size w - p))
  where
    go : (size w - p ≡ 0) ⊎ (0 < size w - p) → 2 ^ (size w - p) * 2 ^ (p - 1) ≤ w + 2 ^ (p - 1)
    go (inl e) = subst (λ (k : ℕ). 2 ^ k * 2 ^ (p - 1) ≤ w + 2 ^ (p - 1)) (sym e) (omega arith)
    go (inr h) =
        omega (arith, le_trans (le_of_eq (sym (pow-add 2 (size w - p) (p - 1)))) (size_reaches w (size w - p + (p - 1)) (omega arith)))

-- the result, g = kept * 2 ^ drop, times den is within n / 2 ^ p + den / 2 of n
abbrev pub Near : ℕ → ℕ → ℕ → ℕ → Type 0
Near h n den g = (g * den * (h * 2) ≤ n * (h * 2) + (n + h * den)) × (n * (h * 2) ≤ g * den * (h * 2) + (n + h * den))

join : (h n den c k w : ℕ) → Half n (den * k) c → k * h ≤ w + h → w * den ≤ n → Near h n den (c * k)
join h n den c k w x d e =
    let a = mul-le-mul_right h x.0 in let b = mul-le-mul_right h x.1 in
    let f = mul-le-mul_right den d in
    (omega arith, omega arith)

pub kept_near : (p n den : ℕ) → 0 < p → 0 < den → Near (2 ^ (p - 1)) n den (kept p n den * 2 ^ drop p n den)
kept_near p n den P D =
    join (2 ^ (p - 1)) n den (kept p n den) (2 ^ drop p n den) (n / den)
    (closest-near n (den * 2 ^ drop p n den) (mul-pos D (pow_pos (drop p n den)))) (drop_le p (n / den) P) (div-mul-le_self n den)
