-- The value of `abs_of` and `max_of`: what they are in fractions.
use Rattle.std.specs.Prelude.{◌≡◌, refl, Bool, true, false, not, cond, [], ◌∷◌, ℕ, zero, suc, ◌*◌, T, Float}
use Rattle.std.proofs.Common.{sym, ◌∙◌, subst}
use Rattle.std.specs.Float.{nan, inf, fin, binary64}
use Rattle.std.specs.Float.Ieee.{fits, lt, up, down}
use Rattle.std.specs.Float.Ieee.Fits.{down_pos}
use Rattle.std.specs.Float.Ieee.Scale.{finite}
use Rattle.exact.specs.Rat.{qn, leq, negq, ◌*q◌, ◌≤q◌, ≤q-refl, ≤q-total}
use Rattle.exact.specs.Ring.{var, ◌:*◌, ng, same, ring}
use Rattle.exact.specs.Abs.{0≤, Abs, abs_neg}
use Rattle.exact.specs.Val.{val, sg}
use Rattle.exact.specs.Sign.{sg-nn}
use Rattle.exact.specs.Compare.{lt_val}
use Rattle.exact.specs.Relative.{unsigned}
use Rattle.arith.specs.Real.{is_finite, abs_of, max_of}

-- `is_finite` is the library's `finite`
pub finite-same : (x : Float) → is_finite x ≡ finite x
unfolding is_finite
finite-same nan = refl
finite-same (inf s) = refl
finite-same (fin s m e) = refl

pub abs-unsigned : (x : Float) → T (finite x) → T (unsigned (abs_of x))
unfolding abs_of
abs-unsigned nan p = p
abs-unsigned (inf s) p = p
abs-unsigned (fin s m e) p = tt

pub abs-finite : (x : Float) → T (finite x) → T (finite (abs_of x))
unfolding abs_of
abs-finite nan p = p
abs-finite (inf s) p = p
abs-finite (fin s m e) p = p

pub abs-fits : (x : Float) → T (fits binary64 x) → T (fits binary64 (abs_of x))
unfolding abs_of fits
abs-fits nan f = f
abs-fits (inf s) f = f
abs-fits (fin s zero e) f = f
abs-fits (fin s (suc m) e) f = f

pub abs-nn : (x : Float) → 0≤ (val (abs_of x))
unfolding abs_of
abs-nn nan = ≤q-refl (qn 0)
abs-nn (inf s) = ≤q-refl (qn 0)
abs-nn (fin s m e) = sg-nn (m * up e) (down e) (down_pos e)

pub abs-square : (x : Float) → val (abs_of x) *q val (abs_of x) ≡ val x *q val x
unfolding abs_of negq same
abs-square nan = refl
abs-square (inf s) = refl
abs-square (fin false m e) = refl
abs-square (fin true m e) = ring ((sg false (m * up e) (down e) (down_pos e)) ∷ []) (var 0 :* var 0) (ng (var 0) :* ng (var 0)) tt

pub abs-abs : (x : Float) (A : ℕ) → Abs (val x) A → Abs (val (abs_of x)) A
unfolding abs_of negq
abs-abs nan A h = h
abs-abs (inf s) A h = h
abs-abs (fin false m e) A h = h
abs-abs (fin true m e) A h = abs_neg (sg true (m * up e) (down e) (down_pos e)) A h

-- ---- the larger of two
undo : (b : Bool) → T (not (not b)) → T b
undo true t = tt
undo false t = t

pub lt_yes : (a b : Float) → T (finite a) → T (finite b) → lt a b ≡ true → val a ≤q val b
lt_yes a b p q h = ≤q-total (val b) (val a) (subst T (sym h ∙ lt_val a b p q) tt)

pub lt_no : (a b : Float) → T (finite a) → T (finite b) → lt a b ≡ false → val b ≤q val a
lt_no a b p q h = undo (leq (val b) (val a)) (subst (λ c. T (not c)) (sym h ∙ lt_val a b p q) tt)

pub max-first : (a b : Float) → T (finite a) → T (finite b) → val a ≤q val (max_of a b)
max-first a b p q = go (lt a b) (lt_yes a b p q)
  where
    go : (c : Bool) → (c ≡ true → val a ≤q val b) → val a ≤q val (cond c b a)
    go true f = f refl
    go false f = ≤q-refl (val a)

pub max-second : (a b : Float) → T (finite a) → T (finite b) → val b ≤q val (max_of a b)
max-second a b p q = go (lt a b) (lt_no a b p q)
  where
    go : (c : Bool) → (c ≡ false → val b ≤q val a) → val b ≤q val (cond c b a)
    go true f = ≤q-refl (val b)
    go false f = f refl
