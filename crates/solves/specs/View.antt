-- Reads of the scratch as plain values, and what a write leaves alone. The places are those of Layout.
use Rattle.std.specs.Prelude.{ℕ, ◌+◌, ◌*◌, ◌-◌, ◌≤◌, ◌<◌, min, ◌≡◌, List, [], length, get_or, Float}
use Rattle.arith.specs.Flow.{tab}
use Rattle.vectors.specs.declared.vector.Vec3.{Vec3}
use Rattle.vectors.specs.Matrix.{from_cols}
use Rattle.rows.specs.declared.geometry.EqualityRow.{EqualityRow}
use Rattle.rows.specs.View.{at, vec3_at, row_at, Out}
use Rattle.solves.specs.declared.places.Generalized.{Generalized}
use Rattle.solves.specs.declared.places.MassResponse.{MassResponse}
use Rattle.solves.specs.declared.joined.Rows.{Rows as Joins}
use Rattle.solves.specs.declared.joined.Path.{Path}
pub use Rattle.solves.specs.Layout.{ROWS_MOST, BODIES_MOST, VECTOR, SHARES, BAND, START_ROWS, ROWS, MASSES, RHS, SOLUTION, RESIDUAL, DIRECTION}
pub use Rattle.solves.specs.Layout.{PRODUCT, DIAGONAL, NORMAL, GENERALIZED, PATH_BAND, PATH_SCALE, PATH_RHS, END}
use Rattle.solves.specs.Region.{vec_at, Does}
use Rattle.solves.specs.System.{System}
use Rattle.solves.specs.Solver.{row_in, generalized_in, mass_in, Search, Prepared}
use Rattle.solves.specs.Path.{Factor, Refined}

-- what `row_in`, `generalized_in` and `mass_in` have past the end of a list
abbrev pub no_row : EqualityRow
no_row = row_in [] 0

abbrev pub no_generalized : Generalized
no_generalized = generalized_in [] 0

abbrev pub no_mass : MassResponse
no_mass = mass_in [] 0

-- a row is 14 doubles at place + 14 k, and its bodies are in two lists beside the scratch
abbrev pub row_on : List ℕ → List ℕ → List Float → ℕ → ℕ → EqualityRow
row_on ia ib s place k = row_at s (place + 14 * k) (get_or ia k 0) (get_or ib k 0)

abbrev pub rows_on : List ℕ → List ℕ → List Float → ℕ → ℕ → List EqualityRow
rows_on ia ib s place n = tab n (row_on ia ib s place)

abbrev pub generalized_at : List Float → ℕ → ℕ → Generalized
generalized_at s place i = record { linear = vec3_at s (place + 6 * i); angular = vec3_at s (place + 6 * i + 3) }

abbrev pub generalizeds_at : List Float → ℕ → ℕ → List Generalized
generalizeds_at s place body-count = tab body-count (generalized_at s place)

-- the bodies' shares, where `transpose` leaves them
abbrev pub shares_in : List Float → ℕ → List Generalized
shares_in s body-count = generalizeds_at s GENERALIZED body-count

abbrev pub mass_of : Float → Vec3 → Vec3 → Vec3 → MassResponse
mass_of linear x y z = record { linear = linear; angular = from_cols x y z }

abbrev pub mass_at : List Float → ℕ → ℕ → MassResponse
mass_at s place i = mass_of (at s (place + 10 * i)) (vec3_at s (place + 10 * i + 1)) (vec3_at s (place + 10 * i + 4)) (vec3_at s (place + 10 * i + 7))

abbrev pub masses_at : List Float → ℕ → ℕ → List MassResponse
masses_at s place body-count = tab body-count (mass_at s place)

-- rows in the scratch: where they stand, how many, and on how many bodies
pub record Table : Type 0 where
  pub place : ℕ
  pub rows : ℕ
  pub bodies : ℕ

-- the system that stands in a table of rows
abbrev pub system_on : List ℕ → List ℕ → List Float → Table → System
system_on ia ib s t = record { rows = rows_on ia ib s t.place t.rows; masses = masses_at s MASSES t.bodies }

-- the number of rows that are lent with their bodies, their table, and the system that stands there
abbrev pub count_of : Joins → ℕ
count_of rows = length rows.a.now

abbrev pub table_of : Joins → Table
table_of rows = record { place = rows.place; rows = count_of rows; bodies = rows.bodies }

abbrev pub system_at : List Float → Joins → System
system_at s rows = system_on rows.a.now rows.b.now s (table_of rows)

abbrev pub rhs_at : List Float → Joins → List Float
rhs_at s rows = vec_at s RHS (count_of rows)

abbrev pub diagonal_at : List Float → Joins → List Float
diagonal_at s rows = vec_at s DIAGONAL (count_of rows)

abbrev pub solution_at : List Float → Joins → List Float
solution_at s rows = vec_at s SOLUTION (count_of rows)

abbrev pub residual_at : List Float → Joins → List Float
residual_at s rows = vec_at s RESIDUAL (count_of rows)

-- the most that a caller may have counted before a solve
abbrev pub COUNT_MOST : ℕ
COUNT_MOST = 65536

abbrev pub search_at : List Float → ℕ → Float → Search
search_at s n rho = record {
  solution = vec_at s SOLUTION n;
  residual = vec_at s RESIDUAL n;
  direction = vec_at s DIRECTION n;
  rho = rho;
}

abbrev pub prepared_at : List Float → ℕ → Float → Prepared
prepared_at s n rho = record { diagonal = vec_at s DIAGONAL n; direction = vec_at s DIRECTION n; rho = rho }

-- ---- what a call may write, and what it leaves free there
-- No caller can see what is free: every call writes a table before it reads it, the step reads of a solution only the first n of one that was
-- found and of the shares only those of its bodies that a transpose made, and it sets the scratch's first 6,144 doubles to zero before it answers.
-- Outside of one vector, and of the bodies' shares. A transpose leaves free: the shares behind the last body and, where it overflows, all.
abbrev pub Beside : ℕ → ℕ → Type 0
Beside place i = Out place VECTOR i

abbrev pub Shares : ℕ → Type 0
Shares i = Out GENERALIZED SHARES i

-- outside of what an application of the operator writes: the shares and the product
abbrev pub Operating : ℕ → ℕ → Type 0
Operating out i = (Shares i) × (Beside out i)

-- outside of what a pass of a search writes: the vectors from the solution to before the diagonal, the normal, and the shares
abbrev pub Passing : ℕ → Type 0
Passing i = (Out SOLUTION (DIAGONAL - SOLUTION) i) × (Out NORMAL (PATH_BAND - NORMAL) i)

-- outside of what stands before the gradients, and of what the true residual writes
abbrev pub Preparing : ℕ → Type 0
Preparing i = (Beside DIAGONAL i) × (Beside DIRECTION i)

abbrev pub Testing : ℕ → Type 0
Testing i = (Shares i) × (Beside PRODUCT i) × (Beside RESIDUAL i)

-- Outside of the solution and of the tables that a linear solve works in, which lie behind it one after the other: residual, direction, product,
-- diagonal, normal, the bodies' shares, and the path's band, scale and right side (`Tables`, by name). A linear solve leaves free: those tables,
-- the solution behind its first n and, where it fails, all of the solution.
abbrev pub Work : ℕ → Type 0
Work i = Out SOLUTION (END - SOLUTION) i

-- i is in none of them, by name: the same as `Work` (ViewLaws `work-tables`, `tables-work`)
pub record Tables (i : ℕ) : Type 0 where
  pub solution : Beside SOLUTION i
  pub residual : Beside RESIDUAL i
  pub direction : Beside DIRECTION i
  pub product : Beside PRODUCT i
  pub diagonal : Beside DIAGONAL i
  pub normal : Beside NORMAL i
  pub shares : Shares i
  pub band : Out PATH_BAND BAND i
  pub scale : Beside PATH_SCALE i
  pub side : Beside PATH_RHS i

-- n rows in one of the two tables, on bodies below body-count
pub record Rows (s : List Float) (ia ib : List ℕ) (place n body-count : ℕ) : Type 0 where
  pub whole : END ≤ length s
  pub table : place ≤ ROWS
  pub most : n ≤ ROWS_MOST
  pub bodies : body-count ≤ BODIES_MOST
  pub a-there : (k : ℕ) → k < n → get_or ia k 0 < body-count
  pub b_there : (k : ℕ) → k < n → get_or ib k 0 < body-count

-- a vector's place: behind rows and masses, and apart from the bodies' shares
pub record VectorPlace (s : List Float) (place : ℕ) : Type 0 where
  pub low : RHS ≤ place
  pub apart : min (place + VECTOR - GENERALIZED) (GENERALIZED + SHARES - place) ≡ 0
  pub there : place + VECTOR ≤ length s

-- what stands at `from` is read before a loop over `to` writes there
abbrev pub Ahead : ℕ → ℕ → Type 0
Ahead to from = min (to - from) (from + VECTOR - to) ≡ 0

-- a loop over n doubles can write a vector from another
abbrev pub Onto : List Float → ℕ → ℕ → ℕ → Type 0
Onto s n to from = (n ≤ ROWS_MOST) × (to + VECTOR ≤ length s) × (from + VECTOR ≤ length s) × (Ahead to from)

-- such a loop leaves g of two vectors
abbrev pub Filling : (Float → Float → Float) → ℕ → ℕ → ℕ → ℕ → List Float → List Float → Type 0
Filling g x a b n s t = Does (Beside x) s t (vec_at t x n) (tab (length (vec_at s a n)) (λ i. g (at (vec_at s a n) i) (at (vec_at s b n) i)))

-- ---- the path's integers, in arrays beside the scratch
-- the first n of an array
abbrev pub list_of_first : List ℕ → ℕ → List ℕ
list_of_first l n = tab n (λ k. get_or l k 0)

-- the bodies of the rows, on one side and on the other
abbrev pub side_a : Joins → List ℕ
side_a rows = list_of_first rows.a.now (count_of rows)

abbrev pub side_b : Joins → List ℕ
side_b rows = list_of_first rows.b.now (count_of rows)

-- the first n of an order are rows below n
abbrev pub Along : List ℕ → ℕ → Type 0
Along order n = (i : ℕ) → i < n → get_or order i 0 < n

-- and the others are 0
abbrev pub Blank : List ℕ → ℕ → Type 0
Blank order n = (i : ℕ) → n ≤ i → i < 96 → get_or order i 0 ≡ 0

-- n rows, and an order of them
pub record RowsAlong (s : List Float) (ia ib order : List ℕ) (place n body-count : ℕ) : Type 0 where
  pub rows : Rows s ia ib place n body-count
  pub along : Along order n

-- ---- the path's numbers
abbrev pub band_at : List Float → ℕ → List Float
band_at s n = vec_at s PATH_BAND (12 * n)

abbrev pub factor_at : List Float → ℕ → Factor
factor_at s n = record { scale = vec_at s PATH_SCALE n; band = band_at s n }

abbrev pub refined_at : List Float → ℕ → Refined
refined_at s n = record { solution = vec_at s SOLUTION n; residual = vec_at s RESIDUAL n }

-- the order of a path's rows
abbrev pub order_in : Path → List ℕ
order_in path = list_of_first path.order.now (count_of path.rows)

-- outside of what the factor and a refinement write
abbrev pub Factoring : ℕ → Type 0
Factoring i = (Out PATH_BAND BAND i) × (Beside PATH_SCALE i)

abbrev pub Refining : ℕ → Type 0
Refining i = (Passing i) × (Beside PATH_RHS i)
