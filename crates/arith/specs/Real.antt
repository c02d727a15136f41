-- The operations on doubles under short names, constants, and the definitions of src/number.rt.
use Rattle.std.specs.Prelude.{ℕ, Bool, true, false, cond, Float}
use Rattle.arith.specs.Words.{nan, inf, fin, binary64, of_bits, round, lt}
use Rattle.std.specs.Float.Ieee as Ieee

infixl 60 ◌⊕◌ ◌⊖◌
infixl 70 ◌⊗◌ ◌⊘◌
abbrev pub ◌⊕◌ : Float → Float → Float
x ⊕ y = Ieee.add binary64 x y

abbrev pub ◌⊖◌ : Float → Float → Float
x ⊖ y = Ieee.sub binary64 x y

abbrev pub ◌⊗◌ : Float → Float → Float
x ⊗ y = Ieee.mul binary64 x y

abbrev pub ◌⊘◌ : Float → Float → Float
x ⊘ y = Ieee.div binary64 x y

abbrev pub F : ℕ → Float  -- the double with the bits b
F b = of_bits binary64 b

abbrev pub ratio : ℕ → ℕ → Float  -- the double nearest to the fraction p / q, a tie to the even one
ratio p q = round binary64 false p q

unfoldable pub is_finite : Float → Bool  -- no NaN and no infinity
is_finite x = elim x [ nan ↦ false | inf s ↦ false | fin s m e ↦ true ]

unfoldable pub abs_of : Float → Float  -- the sign taken away
abs_of x = elim x [ nan ↦ nan | inf s ↦ inf false | fin s m e ↦ fin false m e ]

abbrev pub max_of : Float → Float → Float  -- the larger of two doubles: a where neither is larger
max_of a b = cond (lt a b) b a
