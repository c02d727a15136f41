-- Laws of `Rattle.std.specs.Float.Ieee`'s `rem`, at any format: the remainder of whole numbers of units (`rem-units`), of a smaller magnitude
-- (`rem-small`) and of the value with the other sign (`rem-neg`).
use mathlib.Core.Path.{◌≡◌, refl, sym, ap, ◌∙◌, subst}
use mathlib.Core.Bool.{Bool, true, false, cond}
use Prim.Native.Nat.{ℕ, zero, suc, ◌+◌, ◌*◌, ◌%◌, ◌^◌, ◌<◌}
use native.Mathlib.Nat.{lt_irrefl, not-suc-le-zero, add-zero, zero-mul, mul_comm, mul_assoc, mul_right_comm, mul-pos}
use native.Mathlib.Nat.{mul-div_cancel, mul-mod_left, mod-eq_of_lt, zero-lt-suc}
use lib.IntN.{ℤ}
use lib.Dec.{T, eqb, eqb-suc-zero}
use lib.Arith.{mod-mul}
use lib.Pow.{pow_pos}
use lib.Ieee.{Float, nan, inf, fin, Format, low, up, down, round, neg, rem, fits}
use lib.Ieee.Fits.{up_pos, down_pos}
use lib.Ieee.Exact.{HasValue}
use lib.Ieee.Scale.{round_same}
use Rattle.arith.specs.Laws.Rounding.{round-self, round-neg}

-- ---- whole numbers
pub mod-scale : (a b c : ℕ) → 0 < b → 0 < c → a * c % (b * c) ≡ a % b * c
mod-scale a b c B C =
    mod-mul (a * c) B C
    ∙ ap (λ (x : ℕ). x % b * c + a * c % c) (mul-div_cancel a C)
    ∙ ap (λ (x : ℕ). a % b * c + x) (mul-mod_left a c)
    ∙ add-zero (a % b * c)

-- equal fractions, with the divisors' too, leave equal remainders
mod-cross : (p q d a b l : ℕ) → 0 < q → 0 < b → 0 < d → 0 < l → p * l ≡ a * d → q * l ≡ b * d → p % q * l ≡ a % b * d
mod-cross p q d a b l Q B D L h k =
    sym (mod-scale p q l Q L)
    ∙ ap (λ (x : ℕ). x % (q * l)) h
    ∙ ap (λ (x : ℕ). a * d % x) k
    ∙ mod-scale a b d B D

-- ---- a and b units, the divisor not 0
module _ (f : Format) (s : Bool) (m : ℕ) (e : ℤ) (n : ℕ) (g : ℤ) (a b : ℕ) where
  both : 0 < n * up g * down e → 0 < b → m * up e * 2 ^ low f ≡ a * down e → n * up g * 2 ^ low f ≡ b * down g
      → round f s (m * up e * down g % (n * up g * down e)) (down e * down g) ≡ round f s (a % b) (2 ^ low f)
  both Q B h k =
      let l = 2 ^ low f in let p = m * up e * down g in let q = n * up g * down e in
      let d = down e * down g in let D = mul-pos (down_pos e) (down_pos g) in
      let L = pow_pos (low f) in
      round_same f s (p % q) d (a % b) l D L
      (mod-cross p q d a b l Q B D L
      (mul_right_comm (m * up e) (down g) l ∙ ap (λ (x : ℕ). x * down g) h ∙ mul_assoc a (down e) (down g))
      (mul_right_comm (n * up g) (down e) l ∙ ap (λ (x : ℕ). x * down e) k ∙ mul_assoc b (down g) (down e)
      ∙ ap (λ (x : ℕ). b * x) (mul_comm (down g) (down e))))

opened : (f : Format) (s t : Bool) (m n : ℕ) (e g : ℤ)
    → rem f (fin s m e) (fin t (suc n) g) ≡ round f s (m * up e * down g % (suc n * up g * down e)) (down e * down g)
unfolding rem
opened f s t m n e g =
    let r = round f s (m * up e * down g % (suc n * up g * down e)) (down e * down g) in
    ap (λ (b : Bool). cond b nan r) (eqb-suc-zero n)

no-units : (b l d : ℕ) (g : ℤ) → 0 < b → 0 < d → 0 * up g * l ≡ b * d → ⊥
no-units b l d g B D h =
    let none = ap (λ (x : ℕ). x * l) (zero-mul (up g)) ∙ zero-mul l in
    lt_irrefl 0 (subst (λ (x : ℕ). 0 < x) (sym h ∙ none) (mul-pos B D))

pub rem-units : (f : Format) (x y : Float) (s t : Bool) (a b : ℕ) → 0 < b
    → HasValue x s a (2 ^ low f) → HasValue y t b (2 ^ low f) → rem f x y ≡ round f s (a % b) (2 ^ low f)
rem-units f nan y s t a b B v w = elim v [ ]
rem-units f (inf _) y s t a b B v w = elim v [ ]
rem-units f (fin s' m e) nan s t a b B v w = elim w [ ]
rem-units f (fin s' m e) (inf _) s t a b B v w = elim w [ ]
rem-units f (fin s' m e) (fin t' zero g) s t a b B v w = absurd (no-units b (2 ^ low f) (down g) g B (down_pos g) w.1)
rem-units f (fin s' m e) (fin t' (suc n) g) s t a b B v w =
    opened f s' t' m n e g
    ∙ ap (λ (z : Bool). round f z (m * up e * down g % (suc n * up g * down e)) (down e * down g)) v.0
    ∙ both f s m e (suc n) g a b (mul-pos (mul-pos (zero-lt-suc n) (up_pos g)) (down_pos e)) B v.1 w.1

-- ---- a smaller magnitude comes back as it is
not-below : (a d : ℕ) (g : ℤ) → a < 0 * up g * d → ⊥
not-below a d g h =
    not-suc-le-zero (subst (λ (x : ℕ). a < x) (ap (λ (x : ℕ). x * d) (zero-mul (up g)) ∙ zero-mul d) h)

pub rem-small : (f : Format) (s t : Bool) (m n : ℕ) (e g : ℤ) → T (fits f (fin s m e))
    → m * up e * down g < n * up g * down e → rem f (fin s m e) (fin t n g) ≡ fin s m e
rem-small f s t m zero e g p h = absurd (not-below (m * up e * down g) (down e) g h)
rem-small f s t m (suc n) e g p h =
    let d = down e in let a = m * up e in
    opened f s t m n e g
    ∙ ap (λ (x : ℕ). round f s x (d * down g)) (mod-eq_of_lt h)
    ∙ round_same f s (a * down g) (d * down g) a d (mul-pos (down_pos e) (down_pos g)) (down_pos e)
    (mul_assoc a (down g) d ∙ ap (λ (x : ℕ). a * x) (mul_comm (down g) d))
    ∙ round-self f s m e p

-- ---- the sign of the dividend goes through
cond-neg : (b : Bool) (x y : Float) → x ≡ neg y → cond b nan x ≡ neg (cond b nan y)
unfolding neg
cond-neg true x y h = refl
cond-neg false x y h = h

pub rem-neg : (f : Format) (x y : Float) → rem f (neg x) y ≡ neg (rem f x y)
unfolding rem neg
rem-neg f nan y = refl
rem-neg f (inf s) y = refl
rem-neg f (fin s m e) nan = refl
rem-neg f (fin s m e) (inf t) = refl
rem-neg f (fin s m e) (fin t n g) =
    cond-neg (eqb n 0) _ _ (round-neg f s (m * up e * down g % (n * up g * down e)) (down e * down g))
