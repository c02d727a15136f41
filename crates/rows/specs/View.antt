-- Where a slice of doubles holds a row, and what a write leaves alone. A row is 14 doubles; the bodies that it joins stand beside the slice.
use Rattle.std.specs.Prelude.{ℕ, suc, ◌+◌, ◌*◌, ◌-◌, min, ◌≡◌, List, length, Float}
use Rattle.arith.specs.Flow.{tab}
pub use Rattle.vectors.specs.Vector.{at, vec3_at}
use Rattle.rows.specs.declared.geometry.EqualityRow.{EqualityRow}

-- the row at i, between the bodies a and b
abbrev pub row_at : List Float → ℕ → ℕ → ℕ → EqualityRow
row_at s i a b = record {
  a = a;
  b = b;
  linear_a = vec3_at s i;
  angular_a = vec3_at s (i + 3);
  linear_b = vec3_at s (i + 6);
  angular_b = vec3_at s (i + 9);
  value = at s (i + 12);
  tolerance = at s (i + 13);
}

-- n rows, one behind the other
abbrev pub rows_at : List Float → ℕ → ℕ → ℕ → ℕ → List EqualityRow
rows_at s i a b n = tab n (λ k. row_at s (i + 14 * k) a b)

-- i is none of a, .. , a + n - 1
abbrev pub Out : ℕ → ℕ → ℕ → Type 0
Out a n i = min (suc i - a) (a + n - i) ≡ 0

-- t is s but where P does not hold
pub record Kept (P : ℕ → Type 0) (s t : List Float) : Type 0 where
  pub size : length t ≡ length s
  pub same : (i : ℕ) → P i → at t i ≡ at s i
