-- What a linear solve is about: the rows, and the mass response of each body.
use Rattle.std.specs.Prelude.{ℕ, List, [], ◌∷◌, length}
use Rattle.solves.specs.Words.{EqualityRow, CollisionError, MassResponse}
use Rattle.arith.specs.Run.{Run}

abbrev pub BODIES_MOST : ℕ  -- the most bodies of a solve
BODIES_MOST = 16

pub record System : Type 0 where
  pub rows : List EqualityRow
  pub masses : List MassResponse

abbrev pub rows_in : System → ℕ
rows_in system = length system.rows

unfoldable pub side_of : (EqualityRow → ℕ) → List EqualityRow → List ℕ  -- the bodies that rows join, on one side
side_of side [] = []
side_of side (row ∷ rows) = side row ∷ side_of side rows

abbrev pub Counting : Type 0 → Type 0  -- a run that may fail as the Rust does
Counting A = Run A CollisionError
