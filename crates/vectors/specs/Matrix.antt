-- matrix.rs: matrices of three columns of three doubles, their Cholesky factor, and the inverse of solver_mass.rs.
use Rattle.std.specs.Prelude.{ℕ, ◌+◌, ◌^◌, List, [], ◌∷◌, Bool, cond, not, ◌&&◌, ◌||◌, Float, get_or, set, eqb}
use Rattle.vectors.specs.Words.{nan, binary64, eq, lt, ◌⊕◌}
use Rattle.vectors.specs.Words.{◌⊖◌, ◌⊗◌, ◌⊘◌, ratio, is_finite, abs_of, max_of, sqrt, Turn, go, stop, ◌>>=◌, turns, loop, return_if, Vec3, Mat3, CholeskyError}
use Rattle.vectors.specs.Words.{NonFiniteInput, NotSymmetric, NotPositiveDefinite, ResultOutOfRange, Cholesky3}
use Rattle.vectors.specs.Vector.{vec, zero_vec, axis_x, axis_y, axis_z, add_of, scale_of, div_of, finite_of}

abbrev pub Cells : Type 0  -- Three lists of three doubles: columns or rows.
Cells = List (List Float)

abbrev pub cell : Cells → ℕ → ℕ → Float  -- c[i][j]
cell c i j = get_or (get_or c i []) j nan

abbrev pub put : Cells → ℕ → ℕ → Float → Cells  -- c[i][j] = v;
put c i j v = set c i (set (get_or c i []) j v)

abbrev pub triple : Float → Float → Float → List Float
triple x y z = x ∷ y ∷ z ∷ []

abbrev pub transposed : Cells → Cells  -- columns from rows, or rows from columns
transposed c = let row : ℕ → List Float = λ i. triple (cell c 0 i) (cell c 1 i) (cell c 2 i) in row 0 ∷ row 1 ∷ row 2 ∷ []

abbrev pub mat_of : Cells → Mat3
mat_of c = record { columns = c }

abbrev pub column_of : Mat3 → ℕ → Vec3  -- columns[index]
column_of m index = vec (cell m.columns index 0) (cell m.columns index 1) (cell m.columns index 2)

abbrev pub from_cols : Vec3 → Vec3 → Vec3 → Mat3
from_cols x y z = mat_of (triple x.x x.y x.z ∷ triple y.x y.y y.z ∷ triple z.x z.y z.z ∷ [])

abbrev pub zero_mat : Mat3
zero_mat = from_cols zero_vec zero_vec zero_vec

abbrev pub transpose_of : Mat3 → Mat3
transpose_of m = mat_of (transposed m.columns)

abbrev pub finite_mat : Mat3 → Bool
finite_mat m = finite_of (column_of m 0) && finite_of (column_of m 1) && finite_of (column_of m 2)

abbrev pub apply_of : Mat3 → Vec3 → Vec3  -- Mat3 * Vec3
apply_of m v = add_of (add_of (scale_of (column_of m 0) v.x) (scale_of (column_of m 1) v.y)) (scale_of (column_of m 2) v.z)

unfoldable pub mat_product_of : Mat3 → Mat3 → Mat3  -- Mat3 * Mat3
mat_product_of m n = from_cols (apply_of m (column_of n 0)) (apply_of m (column_of n 1)) (apply_of m (column_of n 2))

abbrev pub larger : Float → Vec3 → Float  -- factor_spd, from here to factor_spd_of: scale = scale.max(value.abs())
larger scale v = max_of (max_of (max_of scale (abs_of v.x)) (abs_of v.y)) (abs_of v.z)

abbrev pub mat_largest_of : Mat3 → Float
mat_largest_of m = larger (larger (larger (ratio 0 1) (column_of m 0)) (column_of m 1)) (column_of m 2)

abbrev pub divided : Cells → Float → Cells  -- normalized[row][column] = rows[row][column] / scale
divided r scale =
    let row : ℕ → List Float = λ i. triple (cell r i 0 ⊘ scale) (cell r i 1 ⊘ scale) (cell r i 2 ⊘ scale) in row 0 ∷ row 1 ∷ row 2 ∷ []

abbrev pub uneven : Float → Float → Bool  -- two mirrored numbers differ by more than 32 epsilon
uneven a b = lt (ratio 32 (2 ^ 52)) (abs_of (a ⊖ b))

abbrev pub not_symmetric : Cells → Bool
not_symmetric n = uneven (cell n 1 0) (cell n 0 1) || uneven (cell n 2 0) (cell n 0 2) || uneven (cell n 2 1) (cell n 1 2)

unfoldable pub correction_of : Cells → ℕ → ℕ → Float  -- the products of the entries before `column` in two rows of the factor, summed from +0
correction_of lower row column = turns (λ k sum. sum ⊕ cell lower row k ⊗ cell lower column k) column (ratio 0 1)

abbrev pub above_zero : Float → Bool
above_zero x = is_finite x && lt (ratio 0 1) x

abbrev pub entered : Cells → ℕ → ℕ → Float → Turn Cells CholeskyError  -- a pivot that is not finite and above 0 is refused
entered lower row column value =
    cond (eqb row column)
    (cond (above_zero value) (go (put lower row column (sqrt binary64 value))) (stop NotPositiveDefinite))
    (go (put lower row column (value ⊘ cell lower column column)))

unfoldable pub entry_of : Cells → ℕ → ℕ → Cells → Turn Cells CholeskyError
entry_of n row column lower = entered lower row column (cell n row column ⊖ correction_of lower row column)

unfoldable pub factor_row_of : Cells → ℕ → Cells → Turn Cells CholeskyError  -- for column in 0..=row
factor_row_of n row lower = loop (row + 1) (entry_of n row) lower

unfoldable pub factor_of : Cells → Cells → Turn Cells CholeskyError  -- for row in 0..3
factor_of n lower = loop 3 (factor_row_of n) lower

unfoldable pub factor_spd_of : Mat3 → Turn Cholesky3 CholeskyError
factor_spd_of m = do
  let scale = mat_largest_of m
  let normalized = divided (transposed m.columns) scale
  _ ← return_if (not (finite_mat m)) NonFiniteInput
  _ ← return_if (eq scale (ratio 0 1)) NotPositiveDefinite
  _ ← return_if (not_symmetric normalized) NotSymmetric
  lower ← factor_of normalized zero_mat.columns
  go (record { lower = mat_of (transposed lower); scale = scale })

abbrev pub forward_of : Cells → Vec3 → Vec3  -- solve, for row in 0..3: value -= lower[row][column] * intermediate[column]
forward_of l v =
    let x = v.x ⊘ cell l 0 0 in let y = (v.y ⊖ cell l 1 0 ⊗ x) ⊘ cell l 1 1 in
    vec x y ((v.z ⊖ cell l 2 0 ⊗ x ⊖ cell l 2 1 ⊗ y) ⊘ cell l 2 2)

abbrev pub backward_of : Cells → Vec3 → Vec3  -- for row in (0..3).rev(): value -= lower[column][row] * solution[column]
backward_of l v =
    let z = v.z ⊘ cell l 2 2 in let y = (v.y ⊖ cell l 2 1 ⊗ z) ⊘ cell l 1 1 in
    vec ((v.x ⊖ cell l 1 0 ⊗ y ⊖ cell l 2 0 ⊗ z) ⊘ cell l 0 0) y z

unfoldable pub factor_solve_of : Cholesky3 → Vec3 → Turn Vec3 CholeskyError
factor_solve_of factor rhs = do
  let normalized = div_of rhs factor.scale
  let lower = transposed factor.lower.columns
  let solution = backward_of lower (forward_of lower normalized)
  _ ← return_if (not (finite_of rhs)) NonFiniteInput
  _ ← return_if (not (finite_of normalized)) ResultOutOfRange
  _ ← return_if (not (finite_of solution)) ResultOutOfRange
  go solution

unfoldable pub solve_spd_of : Mat3 → Vec3 → Turn Vec3 CholeskyError  -- self.factor_spd()?.solve(rhs)
solve_spd_of m rhs = factor_spd_of m >>= λ factor. factor_solve_of factor rhs

unfoldable pub inverse_by : (Vec3 → Turn Vec3 CholeskyError) → Turn Mat3 CholeskyError  -- solver_mass.rs: a column for each axis
inverse_by solve = do
  x ← solve axis_x
  y ← solve axis_y
  z ← solve axis_z
  let inverse = from_cols x y z
  _ ← return_if (not (finite_mat inverse)) ResultOutOfRange
  go inverse

unfoldable pub inverse_spd_of : Mat3 → Turn Mat3 CholeskyError
inverse_spd_of m = inverse_by (solve_spd_of m)
