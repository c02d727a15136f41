-- solver.rs below `solve`, what counts no pass: over plain values, in the Rust's names and order of operations; sums start from +0 and go from the
-- left. In a `do` block `x ← e` is `let x = e?`. The path of joints is in Path.antt, what counts its passes in Search.antt.
use Rattle.std.specs.Prelude.{ℕ, List, [], ◌∷◌, ◌++◌, Bool, false, cond, not, ◌||◌, length, get_or, set, replicate, eqb, Float}
use Rattle.solves.specs.Words.{nan, binary64, le, ◌⊕◌}
use Rattle.solves.specs.Words.{◌⊖◌, ◌⊗◌, ◌⊘◌, ratio, is_finite, sqrt, go, stop, ◌>>=◌, turns, loop, tab, each, return_if, Vec3, zero_vec, dot_of, add_of}
use Rattle.solves.specs.Words.{scale_of, at, apply_of, EqualityRow, NonConvergent, ArithmeticOverflow, Result, try_finite, MassResponse, Generalized}
use Rattle.solves.specs.System.{System, rows_in}

-- rows[i], generalized[i], masses[i]; past the end, where no index below goes, nothing that is a number
abbrev pub no_vec : Vec3
no_vec = record { x = nan; y = nan; z = nan }

abbrev pub row_in : List EqualityRow → ℕ → EqualityRow
row_in rows i = get_or rows i
    (record { a = 0; b = 0; linear_a = no_vec; angular_a = no_vec; linear_b = no_vec; angular_b = no_vec; value = nan; tolerance = nan })

abbrev pub generalized_in : List Generalized → ℕ → Generalized
generalized_in out i = get_or out i (record { linear = no_vec; angular = no_vec })

abbrev pub mass_in : List MassResponse → ℕ → MassResponse
mass_in masses i = get_or masses i (record { linear = nan; angular = record { columns = [] } })

abbrev pub try_number : Float → Result Float  -- value.is_finite().then_some(value).ok_or(ArithmeticOverflow)
try_number value = cond (is_finite value) (go value) (stop ArithmeticOverflow)

abbrev pub sum_products : List Float → List Float → ℕ → Float  -- fn dot: the first n products, summed
sum_products a b n = turns (λ k sum. sum ⊕ at a k ⊗ at b k) n (ratio 0 1)

unfoldable pub dot : List Float → List Float → Result Float
dot a b = try_number (sum_products a b (length a))

unfoldable pub pushed : Generalized → Vec3 → Vec3 → Float → Result Generalized  -- fn transpose: body[0] = finite(body[0] + linear * value)?; ..
pushed body linear angular value = do
  l ← try_finite (add_of body.linear (scale_of linear value))
  a ← try_finite (add_of body.angular (scale_of angular value))
  go (record { linear = l; angular = a })

unfoldable pub push_into : ℕ → Vec3 → Vec3 → Float → List Generalized → Result (List Generalized)  -- out[index]
push_into index linear angular value out = pushed (generalized_in out index) linear angular value >>= λ body. go (set out index body)

unfoldable pub push_row : EqualityRow → Float → List Generalized → Result (List Generalized)
push_row row value out =
    push_into row.a row.linear_a row.angular_a value out
    >>= push_into row.b row.linear_b row.angular_b value

abbrev pub no_share : Generalized
no_share = record { linear = zero_vec; angular = zero_vec }

unfoldable pub transpose : List EqualityRow → List Float → ℕ → Result (List Generalized)
transpose rows values count_of_bodies = loop (length rows) (λ k out. push_row (row_in rows k) (at values k) out) (replicate count_of_bodies no_share)

unfoldable pub scaled : Generalized → MassResponse → Result Generalized  -- fn operator: value[0] = finite(value[0] * mass.linear)?; ..
scaled value mass = do
  l ← try_finite (scale_of value.linear mass.linear)
  a ← try_finite (apply_of mass.angular value.angular)
  go (record { linear = l; angular = a })

abbrev pub scale_all : List Generalized → List MassResponse → ℕ → Result (List Generalized)
scale_all generalized masses count_of_bodies = each count_of_bodies (λ k. scaled (generalized_in generalized k) (mass_in masses k))

unfoldable pub rate : EqualityRow → Generalized → Generalized → Float
rate row a b =
    dot_of row.linear_a a.linear ⊕ dot_of row.angular_a a.angular
    ⊕ dot_of row.linear_b b.linear ⊕ dot_of row.angular_b b.angular

abbrev pub rates : List EqualityRow → ℕ → List Generalized → Result (List Float)  -- a = generalized[row.a]; b = generalized[row.b]; the rate, if finite
rates rows n moved = each n λ k. try_number (rate (row_in rows k) (generalized_in moved (row_in rows k).a) (generalized_in moved (row_in rows k).b))

unfoldable pub operator : System → List Float → Result (List Float)
operator system input = do
  let count_of_bodies = length system.masses
  generalized ← transpose system.rows input count_of_bodies
  moved ← scale_all generalized system.masses count_of_bodies
  rates system.rows (rows_in system) moved

unfoldable pub through : MassResponse → Vec3 → Vec3 → Vec3 → Vec3 → Float  -- fn cross_mass: mass.linear * al.dot(bl) + aa.dot(mass.angular * ba)
through mass al aa bl ba = mass.linear ⊗ dot_of al bl ⊕ dot_of aa (apply_of mass.angular ba)

abbrev pub add_through : List MassResponse → ℕ → Vec3 → Vec3 → ℕ → Vec3 → Vec3 → Float → Float  -- if ai == bi { value += .. }
add_through masses ai al aa bi bl ba value = cond (eqb ai bi) (value ⊕ through (mass_in masses ai) al aa bl ba) value

unfoldable pub cross_end : List MassResponse → ℕ → Vec3 → Vec3 → EqualityRow → Float → Float  -- one end of row a against both ends of row b
cross_end masses ai al aa b value =
    add_through masses ai al aa b.b b.linear_b b.angular_b
    (add_through masses ai al aa b.a b.linear_a b.angular_a value)

unfoldable pub cross_mass : EqualityRow → EqualityRow → List MassResponse → Result Float
cross_mass a b masses = try_number
    (cross_end masses a.b a.linear_b a.angular_b b
    (cross_end masses a.a a.linear_a a.angular_a b (ratio 0 1)))

unfoldable pub plus : List Float → Float → List Float → List Float  -- x[i] += alpha * d[i]
plus x alpha d = tab (length x) (λ i. at x i ⊕ alpha ⊗ at d i)

unfoldable pub minus : List Float → Float → List Float → List Float  -- x[i] -= alpha * d[i]
minus x alpha d = tab (length x) (λ i. at x i ⊖ alpha ⊗ at d i)

unfoldable pub difference : List Float → List Float → List Float  -- a[i] - b[i]
difference a b = tab (length a) (λ i. at a i ⊖ at b i)

unfoldable pub within : List Float → Float → Result Bool  -- dot(&residual, &residual)?.sqrt() <= tolerance
within residual tolerance = dot residual residual >>= λ square. go (le (sqrt binary64 square) tolerance)

unfoldable pub tolerance_for : Float → List Float → Result Float  -- scale * (1.0 + dot(&rhs, &rhs)?.sqrt())
tolerance_for scale rhs = dot rhs rhs >>= λ square. go (scale ⊗ (ratio 1 1 ⊕ sqrt binary64 square))

pub record Search : Type 0 where  -- from pass to pass: self.solution, self.residual, self.direction, and rho (`norm` in least squares)
  pub solution : List Float
  pub residual : List Float
  pub direction : List Float
  pub rho : Float

unfoldable pub diagonal_of : EqualityRow → MassResponse → MassResponse → Float  -- fn linear_solve, from here: the diagonal-scaled conjugate gradients
diagonal_of row ma mb =
    ma.linear ⊗ dot_of row.linear_a row.linear_a
    ⊕ dot_of row.angular_a (apply_of ma.angular row.angular_a)
    ⊕ mb.linear ⊗ dot_of row.linear_b row.linear_b
    ⊕ dot_of row.angular_b (apply_of mb.angular row.angular_b)

pub record Prepared : Type 0 where
  pub diagonal : List Float
  pub direction : List Float
  pub rho : Float

unfoldable pub prepare_row : System → List Float → ℕ → Prepared → Result Prepared  -- the diagonal, the first direction and rho, row by row
prepare_row system residual i p = do
  let row = row_in system.rows i
  let d = diagonal_of row (mass_in system.masses row.a) (mass_in system.masses row.b)
  let x = at residual i ⊘ d
  _ ← return_if (not (is_finite d) || le d (ratio 0 1)) NonConvergent
  go (record { diagonal = p.diagonal ++ (d ∷ []); direction = p.direction ++ (x ∷ []); rho = p.rho ⊕ at residual i ⊗ x })

unfoldable pub prepare : System → List Float → Result Prepared
prepare system residual = loop (rows_in system) (prepare_row system residual) (record { diagonal = []; direction = []; rho = ratio 0 1 })

pub record Tested : Type 0 where  -- The residual, recomputed where the recurrence says success, and whether it is one.
  pub residual : List Float
  pub solved : Bool

unfoldable pub true_residual : System → List Float → Float → List Float → List Float → Result Tested
true_residual system rhs tolerance solution residual = do
  near ← within residual tolerance
  cond near
      (do
        product ← operator system solution
        solved ← within (difference rhs product) tolerance
        go (record { residual = difference rhs product; solved = solved }))
      (go (record { residual = residual; solved = false }))

unfoldable pub scaled_square : List Float → List Float → Float  -- the sum of r * r / d
scaled_square residual diagonal = turns (λ k sum. sum ⊕ at residual k ⊗ at residual k ⊘ at diagonal k) (length residual) (ratio 0 1)

unfoldable pub next_direction : List Float → List Float → Float → List Float → List Float  -- residual[i] / diagonal[i] + beta * direction[i]
next_direction residual diagonal beta direction = tab (length residual) (λ i. at residual i ⊘ at diagonal i ⊕ beta ⊗ at direction i)

unfoldable pub advance : System → Search → Result Search  -- the first half of a pass: along the direction as far as the curvature says
advance system s = do
  product ← operator system s.direction
  curvature ← dot s.direction product
  _ ← return_if (le curvature (ratio 0 1) || not (is_finite s.rho)) NonConvergent
  let alpha = s.rho ⊘ curvature
  go (record { solution = plus s.solution alpha s.direction; residual = minus s.residual alpha product; direction = s.direction; rho = s.rho })
