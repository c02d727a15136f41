-- What the error checker asks of an input: a finite Float of at most m / U, which is its own exact value.
use Rattle.std.proofs.Common.{subst}
use Rattle.std.specs.Prelude.{[], ◌∷◌, ℕ, T, Float}
use Rattle.std.specs.Float.Ieee.Scale.{finite}
use Rattle.exact.specs.Rat.{◌-q◌}
use Rattle.exact.specs.Abs.{iv, iv-nn, 0≤, Abs}
use Rattle.exact.specs.Ring.{var, ◌:+◌, ◌:-◌, same, ring}
use Rattle.exact.specs.Val.{val}

-- an input: finite, and |x| ≤ m / U
abbrev pub Input : Float → ℕ → Type 0
Input x m = T (finite x) × Abs (val x) m

pub given : (x : Float) (m : ℕ) → Input x m → T (finite x) × Abs (val x) m × Abs (val x -q val x) 0
unfolding same
given x m h = (
  h.0,
  h.1,
  (
    subst 0≤ (ring (iv 0 ∷ val x ∷ []) (var 0) (var 0 :- (var 1 :- var 1)) tt) (iv-nn 0),
    subst 0≤ (ring (iv 0 ∷ val x ∷ []) (var 0) (var 0 :+ (var 1 :- var 1)) tt) (iv-nn 0),
  ),
)
