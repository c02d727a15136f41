-- The scratch of a linear solve: one region behind the other, as src/layout.rt. Only here are places. Behind END a caller lays its own regions.
use Rattle.std.specs.Prelude.{ℕ, ◌+◌, ◌*◌}
pub use Rattle.solves.specs.System.{BODIES_MOST}

-- the most rows of a solve; System has the most bodies
abbrev pub ROWS_MOST : ℕ
ROWS_MOST = 96

-- sizes: a table of rows (14 doubles each), the mass responses (10), a number for each row, the bodies' shares (6), the path's band (12)
abbrev pub ROW_TABLE : ℕ
ROW_TABLE = ROWS_MOST * 14

abbrev pub MASS_TABLE : ℕ
MASS_TABLE = BODIES_MOST * 10

abbrev pub VECTOR : ℕ
VECTOR = ROWS_MOST

abbrev pub SHARES : ℕ
SHARES = BODIES_MOST * 6

abbrev pub BAND : ℕ
BAND = ROWS_MOST * 12

-- written by the caller: two tables of rows, the mass responses, the right side
abbrev pub START_ROWS : ℕ
START_ROWS = 0

abbrev pub ROWS : ℕ
ROWS = START_ROWS + ROW_TABLE

abbrev pub MASSES : ℕ
MASSES = ROWS + ROW_TABLE

abbrev pub RHS : ℕ
RHS = MASSES + MASS_TABLE

-- written by a solve: the solution, and what it works in
abbrev pub SOLUTION : ℕ
SOLUTION = RHS + VECTOR

abbrev pub RESIDUAL : ℕ
RESIDUAL = SOLUTION + VECTOR

abbrev pub DIRECTION : ℕ
DIRECTION = RESIDUAL + VECTOR

abbrev pub PRODUCT : ℕ
PRODUCT = DIRECTION + VECTOR

abbrev pub DIAGONAL : ℕ
DIAGONAL = PRODUCT + VECTOR

abbrev pub NORMAL : ℕ
NORMAL = DIAGONAL + VECTOR

-- by `transpose` too
abbrev pub GENERALIZED : ℕ
GENERALIZED = NORMAL + VECTOR

abbrev pub PATH_BAND : ℕ
PATH_BAND = GENERALIZED + SHARES

abbrev pub PATH_SCALE : ℕ
PATH_SCALE = PATH_BAND + BAND

abbrev pub PATH_RHS : ℕ
PATH_RHS = PATH_SCALE + VECTOR

abbrev pub END : ℕ
END = PATH_RHS + VECTOR
