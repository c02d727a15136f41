-- From a rounded sum back to the exact one: where x + y rounds to a finite double of at most M / U, x + y is at most (2 M + 1) / U, whatever x and y are.
use Rattle.std.proofs.Common.{subst, mul-le-mul_right, le_of_mul-le-mul_right, zero-lt-suc, arith, ltb→lt, pow_pos}
use Rattle.std.specs.Prelude.{Bool, true, false, cond, ℕ, ◌+◌, ◌*◌, ◌^◌, ◌≤◌, ◌<◌, T, ltb, Float}
use Rattle.std.specs.Float.{inf, binary64}
use Rattle.std.specs.Float.Ieee.{odd, units, round, add, sub, neg}
use Rattle.std.specs.Float.Ieee.Fits.{round_is}
use Rattle.std.specs.Float.Ieee.Order.{drop, kept}
use Rattle.std.specs.Float.Ieee.Scale.{finite, grid}
use Rattle.exact.specs.Rat.{ℚ, whole, add_f, neg_f, ◌+q◌, ◌-q◌, negq, ≤-mk}
use Rattle.exact.specs.Abs.{U, U-le, iv, iv_f, Abs}
use Rattle.exact.specs.Grid.{kept_near}
use Rattle.exact.specs.Val.{val, sg, sg_f, has→val, round-has, abs-out, Rounds, add_rounds, neg-val, neg-finite}

-- ---- in whole numbers: num / den rounds to g / L, which is at most M / u
back_whole : (h num den g L u M : ℕ) → num * L * (h * 2) ≤ g * den * (h * 2) + (num * L + h * den)
    → g * u ≤ M * L → u ≤ L → 0 < h → 0 < L → num * u ≤ (2 * M + 1) * den
back_whole h num den g L u M a b l H P =
    let a' = mul-le-mul_right u a in
    let b' = mul-le-mul_right (den * (h * 2)) b in
    let c' = mul-le-mul_right (num * L * u) H in
    let d' = mul-le-mul_right (h * den) l in
    let e : num * L * u * h ≤ (2 * M * L * den + den * L) * h = omega arith in
    let f = le_of_mul-le-mul_right e H in
    let k : num * u * L ≤ (2 * M + 1) * den * L = omega arith in
    le_of_mul-le-mul_right k P

-- ---- a rounded fraction that is finite
pub under : (s : Bool) (q k : ℕ) → T (finite (units binary64 s q k)) → q * 2 ^ k < 2 ^ 2098
unfolding units
under s q k = go (ltb (q * 2 ^ k) (2 ^ 2098)) (ltb→lt (q * 2 ^ k) (2 ^ 2098))
  where
    go : (b : Bool) → (T b → q * 2 ^ k < 2 ^ 2098) → T (finite (cond b (odd 54 s q k 1074) (inf s))) → q * 2 ^ k < 2 ^ 2098
    go true h t = h tt
    go false h t = absurd t

into : (s : Bool) (a c : ℕ) (C : 0 < c) (M : ℕ) → a * U ≤ M * c → Abs (sg s a c C) M
unfolding iv ◌+q◌ negq
into false a c C M h = (
  ≤-mk (whole 0 0) (add_f (iv_f M) (neg_f (sg_f false a c C))) (omega arith),
  ≤-mk (whole 0 0) (add_f (iv_f M) (sg_f false a c C))
      (omega arith),
)
into true a c C M h = (
  ≤-mk (whole 0 0) (add_f (iv_f M) (neg_f (sg_f true a c C))) (omega arith),
  ≤-mk (whole 0 0) (add_f (iv_f M) (sg_f true a c C))
      (omega arith),
)

pub round-back : (s : Bool) (num den : ℕ) (D : 0 < den) (M : ℕ) → T (finite (round binary64 s num den))
    → Abs (val (round binary64 s num den)) M → Abs (sg s num den D) (2 * M + 1)
round-back s num den D M t h =
    let g = grid binary64 num den in
    let l : g < 2 ^ 2098 =
    under s (kept 53 (num * 2 ^ 1074) den) (drop 53 (num * 2 ^ 1074) den) (subst (λ (z : Float). T (finite z)) (round_is binary64 s num den) t) in
    let v = has→val (round binary64 s num den) s g (2 ^ 1074) (pow_pos 1074) (round-has s num den l) in
    let n = kept_near 53 (num * 2 ^ 1074) den (zero-lt-suc 52) D in
    into s num den D (2 * M + 1) (back_whole (2 ^ 52) num den g (2 ^ 1074) U M n.1
    (abs-out s g (2 ^ 1074) (pow_pos 1074) M (subst (λ z. Abs z M) v.1 h)) U-le (pow_pos 52) (pow_pos 1074))

-- ---- a result that rounds a fraction, and a difference
pub rounds-back : (z : Float) (v : ℚ) → Rounds z v → (M : ℕ) → T (finite z) → Abs (val z) M → Abs v (2 * M + 1)
rounds-back z v r M t h =
    subst (λ w. Abs w (2 * M + 1)) r.value
    (round-back r.sign r.num r.den r.den_pos M (subst (λ w. T (finite w)) r.is t) (subst (λ w. Abs (val w) M) r.is h))

pub sub_back : (x y : Float) (M : ℕ) → T (finite x) → T (finite y) → T (finite (sub binary64 x y))
    → Abs (val (sub binary64 x y)) M → Abs (val x -q val y) (2 * M + 1)
unfolding sub
sub_back x y M p q t h =
    subst (λ w. Abs (val x +q w) (2 * M + 1)) (neg-val y)
    (rounds-back (add binary64 x (neg y)) (val x +q val (neg y)) (add_rounds x (neg y) p (neg-finite y q)) M t h)
