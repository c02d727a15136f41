-- Laws of `Real`: finiteness and magnitude by comparison, as src/number.rt has them, and which doubles are 0 or below it.
use Rattle.std.specs.Float.Ieee as Ieee
use Rattle.std.specs.Prelude.{Float, ◌≡◌, refl, Bool, true, false, ◌&&◌, ◌||◌, ℕ, suc, ◌+◌, ◌*◌, ◌<◌, ℤ, pos, T, ltb, eqb}
use Rattle.std.specs.Float.{nan, inf, fin, binary64}
use Rattle.std.specs.Float.Ieee.{of_bits, up, down, lt, eq}
use Rattle.std.proofs.Common.{sym, ap, ◌∙◌, subst, true≢false, zero-mul, mul-one, mul-pos, zero-lt-suc, lt_irrefl, not-suc-le-zero, lt_of_lt_of_le}
use Rattle.std.proofs.Common.{le-add_right, ltb→lt, lt→ltb, eqb→eq}
use Rattle.std.specs.Bool.{beq}
use Rattle.std.proofs.Math.Dec.{not_T}
use Rattle.std.specs.Float.Ieee.Fits.{up_pos, and_l}
use Rattle.std.specs.Float.Ieee.Bits.{is_true, is_false}
use Rattle.arith.specs.Real.{is_finite}

-- -infinity < x < infinity
pub finite-is : (x : Float) → Ieee.lt (Ieee.neg (inf false)) x && Ieee.lt x (inf false) ≡ is_finite x
unfolding Ieee.lt Ieee.neg is_finite
finite-is nan = refl
finite-is (inf true) = refl
finite-is (inf false) = refl
finite-is (fin s m e) = refl

-- ---- comparison with 0
pub zero_is : of_bits binary64 0 ≡ fin false 0 (pos 0)
unfolding of_bits
zero_is = refl

pub not-zero : (m u : ℕ) → 0 < u → suc m * u * 1 ≡ 0 → ⊥
not-zero m u h e = lt_irrefl 0 (subst (λ (x : ℕ). 0 < x) (sym (mul-one (suc m * u)) ∙ e) (mul-pos (zero-lt-suc m) h))

pub zero_left : (e : ℤ) (s : Bool) → eq (fin s 0 e) (fin false 0 (pos 0)) ≡ true
unfolding eq
zero_left e s = go (0 * up e * 1) (0 * 1 * down e) (ap (λ (x : ℕ). x * 1) (zero-mul (up e))) (zero-mul (down e))
  where
    or-true : (b : Bool) → (b || true) ≡ true
    or-true true = refl
    or-true false = refl

    go : (a b : ℕ) → a ≡ 0 → b ≡ 0 → (eqb a b && (beq s false || eqb a 0)) ≡ true
    go a b p q =
        ap (λ (x : ℕ). eqb x b && (beq s false || eqb x 0)) p
        ∙ ap (λ (x : ℕ). eqb 0 x && (beq s false || true)) q ∙ or-true (beq s false)

pub not_zero_left : (m : ℕ) (e : ℤ) (s : Bool) → eq (fin s (suc m) e) (fin false 0 (pos 0)) ≡ false
unfolding eq
not_zero_left m e s =
    let a = eqb (suc m * up e * 1) (0 * 1 * down e) in
    let b = beq s false || eqb (suc m * up e * 1) 0 in
    is_false (a && b) (not_T (a && b) (λ t. not-zero m (up e) (up_pos e) (eqb→eq (suc m * up e * 1) (0 * 1 * down e) (and_l a b t) ∙ zero-mul (down e))))

pub no : {X : Type 0} → false ≡ true → X
no e = absurd (true≢false (sym e))

pub no-below : (a d : ℕ) → ltb a (0 * d) ≡ true → ⊥
no-below a d h = not-suc-le-zero (rw zero-mul at (ltb→lt a (0 * d) (subst T (sym h) tt)))

pub below-zero : (m : ℕ) (e : ℤ) → lt (fin true (suc m) e) (fin false 0 (pos 0)) ≡ true
unfolding lt
below-zero m e =
    let a = suc m * up e * 1 in
    let b = 0 * 1 * down e in
    is_true (ltb 0 (a + b)) (lt→ltb 0 (a + b) (lt_of_lt_of_le (mul-pos (mul-pos (zero-lt-suc m) (up_pos e)) (zero-lt-suc 0)) (le-add_right a b)))
