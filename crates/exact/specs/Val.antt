-- The value of a finite float as a rational number, and how far each operation of binary64 is from the exact one.
use Rattle.std.specs.Prelude.{◌≡◌, refl, Bool, true, false, not, cond, ℕ, ◌+◌, ◌-◌, ◌*◌, ◌/◌, ◌^◌, ◌≤◌, ◌<◌, T, ltb, eqb, Float}
use Rattle.std.proofs.Common.{sym, ap, ap₂, ◌∙◌, subst, subst₂, le_trans, le_of_eq, mul-le-mul_right, le_of_mul-le-mul_right, lt_of_mul-lt-mul_right}
use Rattle.std.proofs.Common.{zero-lt-suc, mul-pos, mul_right_comm, arith, ltb→lt, nltb→le, eqb→eq, lit≤, pow_pos}
use mathlib.Core.Quot.{sound}
use Rattle.std.proofs.Math.Dec.{nleb→lt}
use Rattle.std.specs.Float.{nan, inf, fin, binary64}
use Rattle.std.specs.Float.Ieee.{up, down, unlike, round, neg, sum, add, sub, mul, div}
use Rattle.std.specs.Float.Ieee.Fits.{down_pos, round_is}
use Rattle.std.specs.Float.Ieee.Exact.{HasValue, units_val}
use Rattle.std.specs.Float.Ieee.Order.{drop, kept}
use Rattle.std.specs.Float.Ieee.Scale.{finite, grid}
use Rattle.exact.specs.Rat.{ℚ, qn, whole, add_f, neg_f, ◌+q◌, ◌-q◌, ◌*q◌, negq, ≤-mk, mk-≤, leq, inv, inv-ok, *q-assoc, *q-one}
pub use Rattle.exact.specs.Value.{sg_f, sg, val}
use Rattle.exact.specs.Abs.{U, U_pos, U-le, iv, iv_f, Abs}
use Rattle.exact.specs.Grid.{Near, kept_near}

pub has→val : (x : Float) (s : Bool) (a c : ℕ) (C : 0 < c) → HasValue x s a c → T (finite x) × (val x ≡ sg s a c C)
has→val nan s a c C h = absurd h
has→val (inf t) s a c C h = absurd h
has→val (fin t m e) s a c C h = (tt, ap (λ b. sg b (m * up e) (down e) (down_pos e)) h.0 ∙ same s)
  where
    same : (s : Bool) → sg s (m * up e) (down e) (down_pos e) ≡ sg s a c C
    same false = sound (omega (arith, h.1))
    same true = sound (omega (arith, h.1))

-- ---- `round` in whole numbers
small : (h n den g P O : ℕ) → Near h n den g → n ≤ P * den → 0 < den → 0 < h → 0 < P → P * 4 ≤ O → g < O
small h n den g P O x a D H Pp o =
    let b = mul-le-mul_right (h * 2) a in let c = mul-le-mul_right (P * den) H in
    let d = mul-le-mul_right (h * den) Pp in let e = mul-le-mul_right (den * (h * 2)) o in
    let z : 0 < P * den * h = mul-pos (mul-pos Pp D) H in
    let x0 = x.0 in
    lt_of_mul-lt-mul_right (den * (h * 2))
    (omega arith)

-- the error in units of 1 / u, for num / den ≤ M / u
abbrev pub rnd : ℕ → ℕ
rnd M = M / 2 ^ 53 + 2

within : (h num den g L u M e : ℕ) → Near h (num * L) den g → num * u ≤ M * den → M + h * 2 ≤ e * (h * 2) → u ≤ L → 0 < h
    → (g * den * u ≤ num * L * u + e * (den * L)) × (num * L * u ≤ g * den * u + e * (den * L))
within h num den g L u M e x m k l H =
    let a = mul-le-mul_right u x.0 in let b = mul-le-mul_right u x.1 in
    let c = mul-le-mul_right L m in let d = mul-le-mul_right (den * L) k in
    let f = mul-le-mul_right (h * den) l in
    let H2 : 0 < h * 2 = omega arith in
    let p : g * den * u * (h * 2) ≤ (num * L * u + e * (den * L)) * (h * 2) = omega arith in
    let q : num * L * u * (h * 2) ≤ (g * den * u + e * (den * L)) * (h * 2) = omega arith in
    (le_of_mul-le-mul_right p H2, le_of_mul-le-mul_right q H2)

-- the fraction is at most 2 ^ 1000
abbrev pub huge : ℕ
huge = 2 ^ 1000

le-huge : (num den M u K : ℕ) → num * u ≤ M * den → M ≤ u * K → 0 < u → num ≤ K * den
le-huge num den M u K m k U = le_of_mul-le-mul_right (omega (arith, mul-le-mul_right den k)) U

err : (s : Bool) (g L num den e : ℕ) (Lp : 0 < L) (D : 0 < den) → g * den * U ≤ num * L * U + e * (den * L)
    → num * L * U ≤ g * den * U + e * (den * L) → Abs (sg s g L Lp -q sg s num den D) e
unfolding iv ◌+q◌ negq
err false g L num den e Lp D a b = (
  ≤-mk (whole 0 0) (add_f (iv_f e) (neg_f (add_f (sg_f false g L Lp) (neg_f (sg_f false num den D))))) (omega arith),
  ≤-mk (whole 0 0) (add_f (iv_f e) (add_f (sg_f false g L Lp) (neg_f (sg_f false num den D)))) (omega arith),
)
err true g L num den e Lp D a b = (
  ≤-mk (whole 0 0) (add_f (iv_f e) (neg_f (add_f (sg_f true g L Lp) (neg_f (sg_f true num den D))))) (omega arith),
  ≤-mk (whole 0 0) (add_f (iv_f e) (add_f (sg_f true g L Lp) (neg_f (sg_f true num den D)))) (omega arith),
)

pub round-has : (s : Bool) (num den : ℕ) → grid binary64 num den < 2 ^ 2098 → HasValue (round binary64 s num den) s (grid binary64 num den) (2 ^ 1074)
round-has s num den h =
    subst (λ (z : Float). HasValue z s (grid binary64 num den) (2 ^ 1074)) (sym (round_is binary64 s num den))
    (units_val binary64 s (kept 53 (num * 2 ^ 1074) den) (drop 53 (num * 2 ^ 1074) den) h)

pub round-err : (s : Bool) (num den : ℕ) (D : 0 < den) (M : ℕ) → num * U ≤ M * den → M ≤ U * huge
    → T (finite (round binary64 s num den)) × Abs (val (round binary64 s num den) -q sg s num den D) (rnd M)
round-err s num den D M m k =
    let L = 2 ^ 1074 in
    let x : Near (2 ^ 52) (num * L) den (grid binary64 num den) = kept_near 53 (num * L) den (zero-lt-suc 52) D in
    let n : num ≤ huge * den = le-huge num den M U huge m k U_pos in
    let n' : num * L ≤ huge * L * den = le_trans (mul-le-mul_right L n) (le_of_eq (mul_right_comm huge den L)) in
    let g : grid binary64 num den < 2 ^ 2098 = small (2 ^ 52) (num * L) den (grid binary64 num den)
    (huge * L) (2 ^ 2098) x n' D (pow_pos 52) (mul-pos (pow_pos 1000) (pow_pos 1074)) (lit≤ tt) in
    let v = has→val (round binary64 s num den) s (grid binary64 num den) L (pow_pos 1074) (round-has s num den g) in
    let w = within (2 ^ 52) num den (grid binary64 num den) L U M (rnd M) x m (omega arith) U-le (pow_pos 52) in
    (v.0, subst (λ z. Abs (z -q sg s num den D) (rnd M)) (sym v.1) (err s (grid binary64 num den) L num den (rnd M) (pow_pos 1074) D w.0 w.1))

-- ---- one operation: a fraction rounded once
-- a bound on ±num / den as a fact about naturals
pub abs-out : (s : Bool) (num den : ℕ) (D : 0 < den) (M : ℕ) → Abs (sg s num den D) M → num * U ≤ M * den
unfolding iv ◌+q◌ negq
abs-out false num den D M h = let k = mk-≤ (whole 0 0) (add_f (iv_f M) (neg_f (sg_f false num den D))) h.0 in omega arith
abs-out true num den D M h = let k = mk-≤ (whole 0 0) (add_f (iv_f M) (sg_f true num den D)) h.1 in omega arith

-- z is finite, and within rnd M of v
abbrev pub Result : Float → ℚ → ℕ → Type 0
Result z v M = T (finite z) × Abs (val z -q v) (rnd M)

-- z is a fraction of the value v, rounded
pub record Rounds (z : Float) (v : ℚ) : Type 0 where
  pub sign : Bool
  pub num : ℕ
  pub den : ℕ
  pub den_pos : 0 < den
  pub is : z ≡ round binary64 sign num den
  pub value : sg sign num den den_pos ≡ v

rounds-err : {z : Float} {v : ℚ} → Rounds z v → (M : ℕ) → Abs v M → M ≤ U * huge → Result z v M
rounds-err r M h k =
    let o = abs-out r.sign r.num r.den r.den_pos M (subst (λ v. Abs v M) (sym r.value) h) in
    subst₂ (λ z v. Result z v M) (sym r.is) r.value (round-err r.sign r.num r.den r.den_pos M o k)

pub plus : (a b c : ℕ) (C : 0 < c) → sg false (a + b) c C ≡ sg false a c C +q sg false b c C
unfolding ◌+q◌
plus a b c C = sound (omega arith)

plus-negative : (a b c : ℕ) (C : 0 < c) → sg true (a + b) c C ≡ sg true a c C +q sg true b c C
unfolding ◌+q◌
plus-negative a b c C = sound (omega arith)

-- a - b and b - a, by which is greater
less : (a b k c : ℕ) (C : 0 < c) → a + k ≡ b
    → (sg true k c C ≡ sg false a c C +q sg true b c C) × (sg false k c C ≡ sg true a c C +q sg false b c C)
unfolding ◌+q◌
less a b k c C e = let z = ap (λ (x : ℕ). x * (c * c)) e in (sound (omega arith), sound (omega arith))

more : (a b k c : ℕ) (C : 0 < c) → b + k ≡ a
    → (sg false k c C ≡ sg false a c C +q sg true b c C) × (sg true k c C ≡ sg true a c C +q sg false b c C)
unfolding ◌+q◌
more a b k c C e = let z = ap (λ (x : ℕ). x * (c * c)) e in (sound (omega arith), sound (omega arith))

sum-rounds : (s : Bool) (a : ℕ) (t : Bool) (b c : ℕ) (C : 0 < c) → Rounds (sum binary64 s a t b c) (sg s a c C +q sg t b c C)
unfolding sum
sum-rounds false a false b c C = record { sign = false; num = a + b; den = c; den_pos = C; is = refl; value = plus a b c C }
sum-rounds true a true b c C = record { sign = true; num = a + b; den = c; den_pos = C; is = refl; value = plus-negative a b c C }
sum-rounds false a true b c C = go (ltb a b) (ltb→lt a b) (nltb→le a b)
  where
    go : (x : Bool) → (T x → a < b) → (T (not x) → b ≤ a)
        → Rounds (cond x (round binary64 true (b - a) c) (round binary64 false (a - b) c)) (sg false a c C +q sg true b c C)
    go true p q = let p' = p tt in record { sign = true; num = b - a; den = c; den_pos = C; is = refl; value = (less a b (b - a) c C (omega arith)).0 }
    go false p q = let q' = q tt in record { sign = false; num = a - b; den = c; den_pos = C; is = refl; value = (more a b (a - b) c C (omega arith)).0 }
sum-rounds true a false b c C = go (ltb a b) (ltb→lt a b) (nltb→le a b) (ltb b a) (nltb→le b a)
  where
    go : (x : Bool) → (T x → a < b) → (T (not x) → b ≤ a) → (y : Bool) → (T (not y) → a ≤ b)
        → Rounds (cond x (round binary64 false (b - a) c) (round binary64 y (a - b) c)) (sg true a c C +q sg false b c C)
    go true p q y r = let p' = p tt in record { sign = false; num = b - a; den = c; den_pos = C; is = refl; value = (less a b (b - a) c C (omega arith)).1 }
    go false p q true r = let q' = q tt in record { sign = true; num = a - b; den = c; den_pos = C; is = refl; value = (more a b (a - b) c C (omega arith)).1 }
    go false p q false r =
        let q' = q tt in let r' = r tt in
        record { sign = false; num = a - b; den = c; den_pos = C; is = refl; value = (less a b (a - b) c C (omega arith)).1 }

-- ±a / x and ±b / y over the common denominator
widen-l : (s : Bool) (a x y : ℕ) (X : 0 < x) (Y : 0 < y) → sg s (a * y) (x * y) (mul-pos X Y) ≡ sg s a x X
widen-l false a x y X Y = sound (omega arith)
widen-l true a x y X Y = sound (omega arith)

widen-r : (s : Bool) (b x y : ℕ) (X : 0 < x) (Y : 0 < y) → sg s (b * x) (x * y) (mul-pos X Y) ≡ sg s b y Y
widen-r false b x y X Y = sound (omega arith)
widen-r true b x y X Y = sound (omega arith)

pub add_rounds : (x y : Float) → T (finite x) → T (finite y) → Rounds (add binary64 x y) (val x +q val y)
unfolding add
add_rounds nan y p q = absurd p
add_rounds (inf s) y p q = absurd p
add_rounds (fin s m e) nan p q = absurd q
add_rounds (fin s m e) (inf t) p q = absurd q
add_rounds (fin s m e) (fin t n d) p q =
    subst (Rounds (sum binary64 s (m * up e * down d) t (n * up d * down e) (down e * down d)))
    (ap₂ ◌+q◌ (widen-l s (m * up e) (down e) (down d) (down_pos e) (down_pos d)) (widen-r t (n * up d) (down e) (down d) (down_pos e) (down_pos d)))
    (sum-rounds s (m * up e * down d) t (n * up d * down e) (down e * down d) (mul-pos (down_pos e) (down_pos d)))

pub add-err : (x y : Float) (M : ℕ) → T (finite x) → T (finite y) → Abs (val x +q val y) M → M ≤ U * huge
    → Result (add binary64 x y) (val x +q val y) M
add-err x y M p q h k = rounds-err (add_rounds x y p q) M h k

pub neg-val : (x : Float) → val (neg x) ≡ negq (val x)
unfolding neg negq
neg-val nan = refl
neg-val (inf s) = refl
neg-val (fin false m e) = refl
neg-val (fin true m e) = refl

pub neg-finite : (x : Float) → T (finite x) → T (finite (neg x))
unfolding neg
neg-finite nan p = p
neg-finite (inf s) p = p
neg-finite (fin s m e) p = p

pub sub-err : (x y : Float) (M : ℕ) → T (finite x) → T (finite y) → Abs (val x -q val y) M → M ≤ U * huge → Result (sub binary64 x y) (val x -q val y) M
unfolding sub
sub-err x y M p q h k =
    subst (λ w. Result (add binary64 x (neg y)) (val x +q w) M) (neg-val y)
    (add-err x (neg y) M p (neg-finite y q) (subst (λ w. Abs (val x +q w) M) (sym (neg-val y)) h) k)

pub times : (s t : Bool) (a b x y : ℕ) (X : 0 < x) (Y : 0 < y) → sg (unlike s t) (a * b) (x * y) (mul-pos X Y) ≡ sg s a x X *q sg t b y Y
unfolding ◌*q◌
times false false a b x y X Y = sound (omega arith)
times false true a b x y X Y = sound (omega arith)
times true false a b x y X Y = sound (omega arith)
times true true a b x y X Y = sound (omega arith)

pub mul-rounds : (x y : Float) → T (finite x) → T (finite y) → Rounds (mul binary64 x y) (val x *q val y)
unfolding mul
mul-rounds nan y p q = absurd p
mul-rounds (inf s) y p q = absurd p
mul-rounds (fin s m e) nan p q = absurd q
mul-rounds (fin s m e) (inf t) p q = absurd q
mul-rounds (fin s m e) (fin t n d) p q = record {
  sign = unlike s t;
  num = m * up e * (n * up d);
  den = down e * down d;
  den_pos = mul-pos (down_pos e) (down_pos d);
  is = refl;
  value = times s t (m * up e) (n * up d) (down e) (down d) (down_pos e) (down_pos d);
}

pub mul-err : (x y : Float) (M : ℕ) → T (finite x) → T (finite y) → Abs (val x *q val y) M → M ≤ U * huge
    → Result (mul binary64 x y) (val x *q val y) M
mul-err x y M p q h k = rounds-err (mul-rounds x y p q) M h k

-- ---- the quotient by a positive value
pos-num : (b c : ℕ) (C : 0 < c) → T (not (leq (sg false b c C) (qn 0))) → 0 < b
unfolding leq
pos-num b c C t = let h = nleb→lt (b * 1 + 0 * c) (0 * c + 0 * 1) t in omega arith

not_neg : (b c : ℕ) (C : 0 < c) → T (not (leq (sg true b c C) (qn 0))) → ⊥
unfolding leq
not_neg b c C t = let h = nleb→lt (0 * 1 + 0 * c) (0 * c + b * 1) t in omega arith

over : (s : Bool) (a b x y : ℕ) (B : 0 < b) (X : 0 < x) (Y : 0 < y) → sg s (a * y) (b * x) (mul-pos B X) *q sg false b y Y ≡ sg s a x X
unfolding ◌*q◌
over false a b x y B X Y = sound (omega arith)
over true a b x y B X Y = sound (omega arith)

quot : (z g f : ℚ) → T (not (leq g (qn 0))) → z *q g ≡ f → z ≡ f *q inv g
quot z g f t e = sym (*q-one z) ∙ ap (λ w. z *q w) (sym (inv-ok g t)) ∙ sym (*q-assoc z g (inv g)) ∙ ap (λ w. w *q inv g) e

unlike-false : (s : Bool) → unlike s false ≡ s
unlike-false true = refl
unlike-false false = refl

first_pos : (n u : ℕ) → 0 < n * u → n ≡ 0 → ⊥
first_pos n u h e = omega (arith, subst (λ (k : ℕ). 0 < k * u) e h)

div-rounds : (x y : Float) → T (finite x) → T (finite y) → T (not (leq (val y) (qn 0))) → Rounds (div binary64 x y) (val x *q inv (val y))
unfolding div
div-rounds nan y p q o = absurd p
div-rounds (inf s) y p q o = absurd p
div-rounds (fin s m e) nan p q o = absurd q
div-rounds (fin s m e) (inf t) p q o = absurd q
div-rounds (fin s m e) (fin true n d) p q o = absurd (not_neg (n * up d) (down d) (down_pos d) o)
div-rounds (fin s m e) (fin false n d) p q o = go (eqb n 0) (eqb→eq n 0)
  where
    N : ℕ
    N = m * up e * down d

    D : ℕ
    D = n * up d * down e

    B : 0 < n * up d
    B = pos-num (n * up d) (down d) (down_pos d) o

    value : sg (unlike s false) N D (mul-pos B (down_pos e)) ≡ val (fin s m e) *q inv (val (fin false n d))
    value = ap (λ (s : Bool). sg s N D (mul-pos B (down_pos e))) (unlike-false s)
        ∙ quot (sg s N D (mul-pos B (down_pos e))) (val (fin false n d)) (val (fin s m e)) o
        (over s (m * up e) (n * up d) (down e) (down d) B (down_pos e) (down_pos d))

    go : (b : Bool) → (T b → n ≡ 0)
        → Rounds (cond b (cond (eqb m 0) nan (inf (unlike s false))) (round binary64 (unlike s false) N D)) (val (fin s m e) *q inv (val (fin false n d)))
    go true z = absurd (first_pos n (up d) B (z tt))
    go false z = record { sign = unlike s false; num = N; den = D; den_pos = mul-pos B (down_pos e); is = refl; value = value }

pub div-err : (x y : Float) (M : ℕ) → T (finite x) → T (finite y) → T (not (leq (val y) (qn 0)))
    → Abs (val x *q inv (val y)) M → M ≤ U * huge → Result (div binary64 x y) (val x *q inv (val y)) M
div-err x y M p q o h k = rounds-err (div-rounds x y p q o) M h k
