-- Absolute bounds: |z| ≤ e / U, where e is a natural number and U a fixed power of two. So a bound is computed with whole numbers alone.
use Rattle.std.specs.Prelude.{◌≡◌, refl, Bool, true, false, not, [], ◌∷◌, ℕ, ◌+◌, ◌*◌, ◌/◌, ◌^◌, ◌≤◌, ◌<◌, T}
use Rattle.std.proofs.Common.{sym, ap, ◌∙◌, subst, mul-le-mul_right, zero-lt-suc, le_of_lt, arith, lit≤, pow_pos}
use mathlib.Core.Quot.{sound}
use Rattle.std.proofs.Math.Nat.{lt-div-mul-add}
use Rattle.exact.specs.Rat.{ℚ, Fr, mk, qn, whole, mul_f, ◌+q◌, ◌-q◌, ◌*q◌, negq, ◌≤q◌, ≤-mk, *q-mk, +q-mk, ≤q-sub, 0≤-add, 0≤-mul, *q-assoc}
use Rattle.exact.specs.Rat.{*q-comm, *q-one, ≤q-trans, mk-≤, leq, inv, inv-ok, cancel-nn}
use Rattle.exact.specs.Ring.{var, con, ◌:+◌, ◌:-◌, ◌:*◌, ng, same, ring}

-- the unit is 1 / U
unfoldable pub U : ℕ
U = 2 ^ 256

pub U_pos : 0 < U
unfolding U
U_pos = pow_pos 256

pub U-le : U ≤ 2 ^ 1074
unfolding U
U-le = lit≤ tt

abbrev pub iv_f : ℕ → Fr
iv_f e = record { p = e; n = 0; d = U; dp = U_pos }

unfoldable pub iv : ℕ → ℚ
iv e = mk (iv_f e)

abbrev pub 0≤ : ℚ → Type 0
0≤ x = qn 0 ≤q x

abbrev pub Abs : ℚ → ℕ → Type 0
Abs z e = 0≤ (iv e -q z) × 0≤ (iv e +q z)

pub iv-add : (a b : ℕ) → iv (a + b) ≡ iv a +q iv b
unfolding iv
iv-add a b = sym (+q-mk (iv_f a) (iv_f b) ∙ sound (omega arith))

pub iv-le : (a b : ℕ) → a ≤ b → iv a ≤q iv b
unfolding iv
iv-le a b h = ≤-mk (iv_f a) (iv_f b) (omega (arith, mul-le-mul_right U h))

pub iv-nn : (a : ℕ) → 0≤ (iv a)
unfolding iv
iv-nn a = ≤-mk (whole 0 0) (iv_f a) (omega arith)

abbrev pub mul_up : ℕ → ℕ → ℕ
mul_up a b = a * b / U + 1

pub iv-mul : (a b : ℕ) → iv a *q iv b ≤q iv (mul_up a b)
unfolding iv
iv-mul a b =
    subst (λ z. z ≤q mk (iv_f (mul_up a b))) (sym (*q-mk (iv_f a) (iv_f b)))
    (≤-mk (mul_f (iv_f a) (iv_f b)) (iv_f (mul_up a b)) (core (a * b) (a * b / U) U (lt-div-mul-add U_pos) a b refl))
  where
    core : (c q u : ℕ) → c < q * u + u → (a b : ℕ) → a * b ≡ c → (a * b + 0 * 0) * u + 0 * (u * u) ≤ (q + 1) * (u * u) + (a * 0 + 0 * b) * u
    core c q u h a b e = omega (arith, mul-le-mul_right u (le_of_lt h), ap (λ (x : ℕ). x * u) e)

half : ℚ
half = mk (record { p = 1; n = 0; d = 2; dp = zero-lt-suc 1 })

half-nn : 0≤ half
unfolding half
half-nn = ≤-mk (whole 0 0) (record { p = 1; n = 0; d = 2; dp = zero-lt-suc 1 }) (omega arith)

half-two : half *q qn 2 ≡ qn 1
unfolding half ◌*q◌
half-two = sound refl

pub halve : (z : ℚ) → 0≤ (qn 2 *q z) → 0≤ z
halve z h = subst 0≤ (sym (*q-assoc half (qn 2) z) ∙ ap (λ w. w *q z) half-two ∙ *q-comm (qn 1) z ∙ *q-one z) (0≤-mul half (qn 2 *q z) half-nn h)

-- ---- the algebra of bounds
pub abs-eq : (x y : ℚ) (a : ℕ) → x ≡ y → Abs x a → Abs y a
abs-eq x y a e h = subst (λ z. Abs z a) e h

pub abs-mono : (x : ℚ) (a b : ℕ) → a ≤ b → Abs x a → Abs x b
unfolding same
abs-mono x a b l h =
    let k = ≤q-sub (iv a) (iv b) (iv-le a b l) in
    let ρ = iv a ∷ iv b ∷ x ∷ [] in (
      subst 0≤ (ring ρ ((var 0 :- var 2) :+ (var 1 :- var 0)) (var 1 :- var 2) tt) (0≤-add (iv a -q x) (iv b -q iv a) h.0 k),
      subst 0≤ (ring ρ ((var 0 :+ var 2) :+ (var 1 :- var 0)) (var 1 :+ var 2) tt) (0≤-add (iv a +q x) (iv b -q iv a) h.1 k),
    )

pub abs_neg : (x : ℚ) (a : ℕ) → Abs x a → Abs (negq x) a
unfolding same
abs_neg x a h = (
  subst 0≤ (ring (iv a ∷ x ∷ []) (var 0 :+ var 1) (var 0 :- ng (var 1)) tt) h.1,
  subst 0≤ (ring (iv a ∷ x ∷ []) (var 0 :- var 1) (var 0 :+ ng (var 1)) tt) h.0,
)

pub abs-add : (x y : ℚ) (a b : ℕ) → Abs x a → Abs y b → Abs (x +q y) (a + b)
unfolding same
abs-add x y a b h k =
    let ρ = iv a ∷ iv b ∷ x ∷ y ∷ [] in (
      subst 0≤ (ring ρ ((var 0 :- var 2) :+ (var 1 :- var 3)) ((var 0 :+ var 1) :- (var 2 :+ var 3)) tt ∙ ap (λ z. z -q (x +q y)) (sym (iv-add a b)))
          (0≤-add (iv a -q x) (iv b -q y) h.0 k.0),
      subst 0≤ (ring ρ ((var 0 :+ var 2) :+ (var 1 :+ var 3)) ((var 0 :+ var 1) :+ (var 2 :+ var 3)) tt ∙ ap (λ z. z +q (x +q y)) (sym (iv-add a b)))
          (0≤-add (iv a +q x) (iv b +q y) h.1 k.1),
    )

pub abs-sub : (x y : ℚ) (a b : ℕ) → Abs x a → Abs y b → Abs (x -q y) (a + b)
abs-sub x y a b h k = abs-add x (negq y) a b h (abs_neg y b k)

pub abs-mul : (x y : ℚ) (a b : ℕ) → Abs x a → Abs y b → Abs (x *q y) (mul_up a b)
unfolding same
abs-mul x y a b h k =
    let A = iv a in let B = iv b in let ρ = A ∷ B ∷ x ∷ y ∷ iv (mul_up a b) ∷ [] in
    let m = ≤q-sub (A *q B) (iv (mul_up a b)) (iv-mul a b) in
    let u = 0≤-add ((A -q x) *q (B +q y)) ((A +q x) *q (B -q y)) (0≤-mul (A -q x) (B +q y) h.0 k.1) (0≤-mul (A +q x) (B -q y) h.1 k.0) in
    let v = 0≤-add ((A -q x) *q (B -q y)) ((A +q x) *q (B +q y)) (0≤-mul (A -q x) (B -q y) h.0 k.0) (0≤-mul (A +q x) (B +q y) h.1 k.1) in
    let u' = halve (A *q B -q x *q y) (subst 0≤
    (ring ρ ((var 0 :- var 2) :* (var 1 :+ var 3) :+ (var 0 :+ var 2) :* (var 1 :- var 3)) (con 2 :* (var 0 :* var 1 :- var 2 :* var 3)) tt) u) in
    let v' = halve (A *q B +q x *q y) (subst 0≤
    (ring ρ ((var 0 :- var 2) :* (var 1 :- var 3) :+ (var 0 :+ var 2) :* (var 1 :+ var 3)) (con 2 :* (var 0 :* var 1 :+ var 2 :* var 3)) tt) v) in (
      subst 0≤ (ring ρ (var 0 :* var 1 :- var 2 :* var 3 :+ (var 4 :- var 0 :* var 1)) (var 4 :- var 2 :* var 3) tt)
          (0≤-add (A *q B -q x *q y) (iv (mul_up a b) -q A *q B) u' m),
      subst 0≤ (ring ρ (var 0 :* var 1 :+ var 2 :* var 3 :+ (var 4 :- var 0 :* var 1)) (var 4 :+ var 2 :* var 3) tt)
          (0≤-add (A *q B +q x *q y) (iv (mul_up a b) -q A *q B) v' m),
    )

-- ---- quotients by what is at least l / U
pub T_not : (b : Bool) → (T b → ⊥) → T (not b)
T_not true f = f tt
T_not false f = tt

pub positive : (y : ℚ) (l : ℕ) → 0 < l → iv l ≤q y → T (not (leq y (qn 0)))
unfolding iv
positive y l p h = T_not (leq y (qn 0)) (λ t. omega (arith, mk-≤ (iv_f l) (whole 0 0) (≤q-trans (iv l) y (qn 0) h t)))

abbrev pub div_up : ℕ → ℕ → ℕ
div_up a l = a * U / l + 1

iv-div : (a l : ℕ) → 0 < l → iv a ≤q iv l *q iv (div_up a l)
unfolding iv
iv-div a l p =
    subst (λ z. mk (iv_f a) ≤q z) (sym (*q-mk (iv_f l) (iv_f (div_up a l))))
    (≤-mk (iv_f a) (mul_f (iv_f l) (iv_f (div_up a l))) (core (a * U) (a * U / l) U (lt-div-mul-add p) a l refl))
  where
    core : (c q u : ℕ) (h : c < q * l + l) (a l' : ℕ) → a * u ≡ c → a * (u * u) + (l * 0 + 0 * (q + 1)) * u ≤ (l * (q + 1) + 0 * 0) * u + 0 * (u * u)
    core c q u h a l' e = omega (arith, mul-le-mul_right u (le_of_lt h), ap (λ (x : ℕ). x * u) e)

pub abs-div : (x y : ℚ) (a l : ℕ) → 0 < l → Abs x a → iv l ≤q y → Abs (x *q inv y) (div_up a l)
unfolding same
abs-div x y a l p h g =
    let P = positive y l p g in let C = iv (div_up a l) in let L = iv l in let A = iv a in
    let ρ = y ∷ C ∷ x ∷ inv y ∷ L ∷ A ∷ [] in
    let s = 0≤-mul (y -q L) C (≤q-sub L y g) (iv-nn (div_up a l)) in
    let t = ≤q-sub A (L *q C) (iv-div a l p) in let r = 0≤-add ((y -q L) *q C) (L *q C -q A) s t in
    let u = 0≤-add ((y -q L) *q C +q (L *q C -q A)) (A -q x) r h.0 in
    let v = 0≤-add ((y -q L) *q C +q (L *q C -q A)) (A +q x) r h.1 in let e = sym (inv-ok y P) in
    let X = var 2 in let Y = var 0 in let c = var 1 in let Z = var 3 in let k = var 4 in let b = var 5 in (
      cancel-nn y (C -q x *q inv y) P (subst 0≤ (ring ρ ((Y :- k) :* c :+ (k :* c :- b) :+ (b :- X)) (Y :* c :- X :* con 1) tt
          ∙ ap (λ o. y *q C -q x *q o) e ∙ ring ρ (Y :* c :- X :* (Y :* Z)) (Y :* (c :- X :* Z)) tt) u),
      cancel-nn y (C +q x *q inv y) P (subst 0≤ (ring ρ ((Y :- k) :* c :+ (k :* c :- b) :+ (b :+ X)) (Y :* c :+ X :* con 1) tt
          ∙ ap (λ o. y *q C +q x *q o) e ∙ ring ρ (Y :* c :+ X :* (Y :* Z)) (Y :* (c :+ X :* Z)) tt) v),
    )
