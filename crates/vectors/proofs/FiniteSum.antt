-- One test that three doubles are finite: x - x is +0 for a finite x, else a NaN, which a sum keeps.
use Prim.Native.Nat.{ℕ, ◌+◌, ◌*◌, ◌<◌}
use native.Mathlib.Nat.{mul-pos}
use native.Mathlib.Omega.{arith}
use lib.Dec.{lit<}
use lib.IntN.{pos}
use lib.Ieee as Ieee
use lib.Ieee.{Float, nan, inf, fin, binary64, up, down, of_bits, round}
use lib.Ieee.Fits.{down_pos}
use lib.Ieee.Scale.{round_same}
use borrow.Author.Tests.{le-ltb}
use mathlib.Core.Path.{◌≡◌, refl, ◌∙◌}
use mathlib.Core.Bool.{Bool, true, false, not, cond, ◌&&◌, beq}
use Rattle.arith.specs.Real.{◌⊕◌, ◌⊖◌, F, is_finite}

abbrev rest : Bool → Float
rest b = cond b (fin false 0 (pos 0)) nan

zero-round : (c : ℕ) → 0 < c → round binary64 false 0 c ≡ rest true
zero-round c C = round_same binary64 false 0 c 0 1 C (lit< tt) (omega arith) ∙ (unfold round in refl)

nothing_left : (s : Bool) (a c : ℕ) → 0 < c → Ieee.sum binary64 s a (not s) a c ≡ rest true
unfolding Ieee.sum
nothing_left s a c C = at s (le-ltb a a (omega arith)) (omega arith)
  where
    at : (s : Bool) {b : Bool} {d : ℕ} → b ≡ false → d ≡ 0
        → cond (beq s (not s)) (round binary64 s (a + a) c) (cond b (round binary64 (not s) d c) (round binary64 (s && b) d c)) ≡ rest true
    at true h e = rw (h, e) (zero-round c C)
    at false h e = rw (h, e) (zero-round c C)

minus-self : (x : Float) → x ⊖ x ≡ rest (is_finite x)
unfolding Ieee.sub Ieee.add Ieee.neg is_finite
minus-self nan = refl
minus-self (inf true) = refl
minus-self (inf false) = refl
minus-self (fin s m e) = nothing_left s (m * up e * down e) (down e * down e) (mul-pos (down_pos e) (down_pos e))

pub finite_sum : (x y z : Float) → Ieee.eq ((x ⊖ x) ⊕ (y ⊖ y) ⊕ (z ⊖ z)) (F 0) ≡ (is_finite x && is_finite y && is_finite z)
finite_sum x y z = simp minus-self (at (is_finite x) (is_finite y) (is_finite z))
  where
    at : (a b c : Bool) → Ieee.eq (rest a ⊕ rest b ⊕ rest c) (F 0) ≡ (a && b && c)
    at true true true = unfold Ieee.add Ieee.eq of_bits in refl
    at true true false = unfold Ieee.add Ieee.eq in refl
    at true false c = unfold Ieee.add Ieee.eq in refl
    at false b c = unfold Ieee.add Ieee.eq in refl
