-- What the walks along the path's blocks have listed and visited, as plain values.
use Rattle.std.specs.Prelude.{ℕ, ◌+◌, ◌≤◌, ◌<◌, ◌≡◌, Bool, cond, List, [], ◌∷◌, length, get_or, IfOk}
use Rattle.arith.specs.Flow.{Turn}
use Rattle.solves.specs.declared.order.NoPath.{NoPath}
use Rattle.solves.specs.declared.order.RowBlock.{RowBlock}
use Rattle.solves.specs.declared.order.Seen.{Seen as Searched}
use Rattle.solves.specs.Path.{Seen}
use Rattle.solves.specs.Answer.{left_as}
use Rattle.solves.specs.View.{list_of_first}
use Rattle.solves.specs.PathView.{size_of, rows_of}

abbrev pub seen_of : Searched → Seen
seen_of seen = record { order = list_of_first seen.rows seen.listed; visited = seen.visited }

-- how many rows the blocks have that were not visited
unfoldable pub room : List RowBlock → List Bool → ℕ
room [] visited = 0
room (block ∷ blocks) [] = size_of block + room blocks []
room (block ∷ blocks) (v ∷ visited) = cond v 0 (size_of block) + room blocks visited

abbrev pub Within : ℕ → List ℕ → Type 0
Within n order = (i : ℕ) → i < length order → get_or order i 0 < n

-- an order and what was visited: it lists rows of the blocks, and there is room for those of all other blocks
pub record Free (blocks : List RowBlock) (seen : Searched) : Type 0 where
  pub left : seen.listed + room blocks seen.visited ≤ 96
  pub along : Within (rows_of blocks) (seen_of seen).order

-- Where one declines, what stands in the order and in `visited` is free: the whole search has failed then.
pub record Walked (blocks : List RowBlock) (result : Turn (Unit {0}) NoPath) (seen : Searched) (defined : Turn Seen NoPath) : Type 0 where
  pub is : left_as result (seen_of seen) ≡ defined
  pub free : IfOk result (λ _. Free blocks seen)
