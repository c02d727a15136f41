-- What the functions that make rows and write them one behind the other promise of each other.
-- Only contracts of private functions cite this file.
use Rattle.std.specs.Prelude.{ℕ, ◌+◌, ◌*◌, ◌≤◌, ◌<◌, ◌≡◌, List, Float, Option, Some, None, Ok, Err, option_to_list}
use Rattle.rows.specs.declared.geometry.Joint.{Joint}
use Rattle.rows.specs.declared.geometry.EqualityRow.{EqualityRow}
use Rattle.rows.specs.Fault.{Result}
use Rattle.rows.specs.View.{at, row_at, Out, Kept}
use Rattle.rows.specs.Answer.{written_as}

-- a row, or none where its axis is free, as a list
abbrev pub listed : Result (Option EqualityRow) → Result (List EqualityRow)
listed (Ok row) = Ok (option_to_list row)
listed (Err e) = Err e

-- ---- rows in a slice
-- two doubles at i
pub record Stored2 (i : ℕ) (x y : Float) (s t : List Float) : Type 0 where
  pub kept : Kept (λ k. Out i 2 k) s t
  pub first : at t i ≡ x
  pub second : at t (i + 1) ≡ y

-- how many rows there are in it
abbrev pub count_in : Option EqualityRow → ℕ
count_in (Some row) = 1
count_in None = 0

-- n rows stand at i in s, and in t the row besides, if there is one
pub record Appends (i n : ℕ) (row : Option EqualityRow) (s t : List Float) (r : ℕ) : Type 0 where
  pub kept : Kept (λ k. Out (i + 14 * n) (14 * count_in row) k) s t
  pub there : (x : EqualityRow) → row ≡ Some x → row_at t (i + 14 * n) x.a x.b ≡ x
  pub is : r ≡ n + count_in row

-- the doubles that a write of at most so many rows may have touched: those of its rows, or of all where it failed
abbrev pub span_of : ℕ → Result ℕ → ℕ
span_of most (Ok n) = 14 * n
span_of most (Err e) = 14 * most

-- at most `most` rows of the joint were written at i since s was, and the answer is what is defined
pub record Adds (joint : Joint) (i most : ℕ) (s t : List Float) (r : Result ℕ) (defined : Result (List EqualityRow)) : Type 0 where
  pub kept : Kept (λ k. Out i (span_of most r) k) s t
  pub within : (n : ℕ) → r ≡ Ok n → n ≤ most
  pub is : written_as r t i joint.body_a joint.body_b ≡ defined

-- t is s with f 0, .. , f (n - 1) at off
pub record Filled (off n : ℕ) (f : ℕ → Float) (s t : List Float) : Type 0 where
  pub kept : Kept (λ i. Out off n i) s t
  pub there : (k : ℕ) → k < n → at t (off + k) ≡ f k
