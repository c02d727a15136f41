-- Doubles of a slice as a list, and what a function does to a slice. Over rows' places (at, Out, Kept); for this crate and the step.
use Rattle.std.specs.Prelude.{ℕ, ◌+◌, ◌≡◌, List, Float}
use Rattle.arith.specs.Flow.{tab}
use Rattle.rows.specs.View.{at, Kept}
pub use Rattle.rows.specs.Append.{Filled}

-- the n doubles at place
abbrev pub vec_at : List Float → ℕ → ℕ → List Float
vec_at s place n = tab n (λ k. at s (place + k))

-- what a function does: it leaves t for s as P allows, and its answer x is what is defined
pub record Does {A : Type 0} (P : ℕ → Type 0) (s t : List Float) (x defined : A) : Type 0 where
  pub kept : Kept P s t
  pub is : x ≡ defined
