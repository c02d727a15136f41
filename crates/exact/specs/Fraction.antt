-- The rational numbers: fractions (p - n) / d of natural numbers up to cross multiplication, as a set quotient, so that equality is a path.
-- Their sum, product, difference and order (`leq` is a test). To believe are the definitions, not the proofs; laws are in `Rat`.
use Rattle.std.specs.Prelude.{◌≡◌, refl, Bool, true, false, not, ℕ, ◌+◌, ◌*◌, ◌^◌, ◌≤◌, ◌<◌, T, leb}
use Rattle.std.proofs.Common.{ap, mul-pos, le_of_mul-le-mul_right, mul-le-mul_right, zero-lt-suc, arith, leb→le, le→leb, pow_pos}
use mathlib.Core.Quot.{Quot, sound, Quot-set, lift, ind}
use Rattle.std.proofs.Math.Bool.{Bool-set}

pub record Fr : Type 0 where
  pub p : ℕ
  pub n : ℕ
  pub d : ℕ
  pub dp : 0 < d

abbrev pub Same : Fr → Fr → Type 0
Same x y = x.p * y.d + y.n * x.d ≡ y.p * x.d + x.n * y.d

abbrev pub LeF : Fr → Fr → Type 0
LeF x y = x.p * y.d + y.n * x.d ≤ y.p * x.d + x.n * y.d

abbrev pub ℚ : Type 0
ℚ = Quot Same

abbrev pub mk : Fr → ℚ
mk x = Quot.mk x

pub ℚ-set : IsSet ℚ
ℚ-set = Quot-set

-- ---- the operations on fractions
abbrev pub add_f : Fr → Fr → Fr
add_f x y = record { p = x.p * y.d + y.p * x.d; n = x.n * y.d + y.n * x.d; d = x.d * y.d; dp = mul-pos x.dp y.dp }

abbrev pub mul_f : Fr → Fr → Fr
mul_f x y = record { p = x.p * y.p + x.n * y.n; n = x.p * y.n + x.n * y.p; d = x.d * y.d; dp = mul-pos x.dp y.dp }

abbrev pub neg_f : Fr → Fr
neg_f x = record { p = x.n; n = x.p; d = x.d; dp = x.dp }

-- (a - b) / 1
abbrev pub whole : ℕ → ℕ → Fr
whole a b = record { p = a; n = b; d = 1; dp = zero-lt-suc 0 }

-- ---- lifting
unfoldable pub lift₂ : {β : Type 0} (βset : IsSet β) (f : Fr → Fr → β)
    → ((a a' b : Fr) → Same a a' → f a b ≡ f a' b) → ((a b b' : Fr) → Same b b' → f a b ≡ f a b') → ℚ → ℚ → β
lift₂ βset f l r q₁ q₂ =
    lift βset (λ a. lift βset (f a) (r a) q₂)
    (λ a a' h. ind {r = Same} (λ q. βset (lift βset (f a) (r a) q) (lift βset (f a') (r a') q)) (λ b. l a a' b h) q₂) q₁

pub add-l : (a a' b : Fr) → Same a a' → Same (add_f a b) (add_f a' b)
add-l a a' b h = omega (arith, ap (λ (x : ℕ). x * (b.d * b.d)) h)

pub add_r : (a b b' : Fr) → Same b b' → Same (add_f a b) (add_f a b')
add_r a b b' h = omega (arith, ap (λ (x : ℕ). x * (a.d * a.d)) h)

pub mul-l : (a a' b : Fr) → Same a a' → Same (mul_f a b) (mul_f a' b)
mul-l a a' b h = omega (arith, ap (λ (x : ℕ). x * (b.d * b.p)) h, ap (λ (x : ℕ). x * (b.d * b.n)) h)

pub mul-r : (a b b' : Fr) → Same b b' → Same (mul_f a b) (mul_f a b')
mul-r a b b' h = omega (arith, ap (λ (x : ℕ). x * (a.d * a.p)) h, ap (λ (x : ℕ). x * (a.d * a.n)) h)

infixl 65 ◌+q◌
unfoldable pub ◌+q◌ : ℚ → ℚ → ℚ
unfolding lift₂
◌+q◌ = lift₂ ℚ-set (λ a b. mk (add_f a b)) (λ a a' b h. sound (add-l a a' b h)) (λ a b b' h. sound (add_r a b b' h))

infixl 70 ◌*q◌
unfoldable pub ◌*q◌ : ℚ → ℚ → ℚ
unfolding lift₂
◌*q◌ = lift₂ ℚ-set (λ a b. mk (mul_f a b)) (λ a a' b h. sound (mul-l a a' b h)) (λ a b b' h. sound (mul-r a b b' h))

unfoldable pub negq : ℚ → ℚ
negq = lift {r = Same} ℚ-set (λ a. mk (neg_f a)) (λ a b h. sound (omega arith))

infixl 65 ◌-q◌
abbrev pub ◌-q◌ : ℚ → ℚ → ℚ
x -q y = x +q negq y

-- a whole number
abbrev pub qn : ℕ → ℚ
qn a = mk (whole a 0)

-- ---- the order
pub iff→≡ : (a b : Bool) → (T a → T b) → (T b → T a) → a ≡ b
iff→≡ true true f g = refl
iff→≡ true false f g = absurd (f tt)
iff→≡ false true f g = absurd (g tt)
iff→≡ false false f g = refl

pub same-le : (x y : Fr) → Same x y → LeF x y
same-le x y h = omega arith

pub same-ge : (x y : Fr) → Same x y → LeF y x
same-ge x y h = omega arith

pub le-trans_f : (x y z : Fr) → LeF x y → LeF y z → LeF x z
le-trans_f x y z h k =
    let a = mul-le-mul_right z.d h in let b = mul-le-mul_right x.d k in
    let g : (x.p * z.d + z.n * x.d) * y.d ≤ (z.p * x.d + x.n * z.d) * y.d = omega arith in
    le_of_mul-le-mul_right g y.dp

abbrev pub leb_f : Fr → Fr → Bool
leb_f x y = leb (x.p * y.d + y.n * x.d) (y.p * x.d + x.n * y.d)

pub le_in : (x y : Fr) → LeF x y → T (leb_f x y)
le_in x y h = le→leb (x.p * y.d + y.n * x.d) (y.p * x.d + x.n * y.d) h

pub le_out : (x y : Fr) → T (leb_f x y) → LeF x y
le_out x y h = leb→le (x.p * y.d + y.n * x.d) (y.p * x.d + x.n * y.d) h

unfoldable pub leq : ℚ → ℚ → Bool
unfolding lift₂
leq = lift₂ Bool-set leb_f
    (λ a a' b h. iff→≡ (leb_f a b) (leb_f a' b) (λ t. le_in a' b (le-trans_f a' a b (same-ge a a' h) (le_out a b t)))
    (λ t. le_in a b (le-trans_f a a' b (same-le a a' h) (le_out a' b t))))
    (λ a b b' h. iff→≡ (leb_f a b) (leb_f a b') (λ t. le_in a b' (le-trans_f a b b' (le_out a b t) (same-le b b' h)))
    (λ t. le_in a b (le-trans_f a b' b (le_out a b' t) (same-ge b b' h))))

infix 50 ◌≤q◌
abbrev pub ◌≤q◌ : ℚ → ℚ → Type 0
x ≤q y = T (leq x y)

infix 50 ◌<q◌
abbrev pub ◌<q◌ : ℚ → ℚ → Type 0
x <q y = T (not (leq y x))

-- ---- for statements: |a - b| ≤ e, and 2 ^ -k
abbrev pub Near : ℚ → ℚ → ℚ → Type 0
Near e a b = (a ≤q b +q e) × (b ≤q a +q e)

abbrev pub tiny : ℕ → Fr
tiny k = record { p = 1; n = 0; d = 2 ^ k; dp = pow_pos k }
