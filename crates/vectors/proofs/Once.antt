-- The inverse with one factor for all three columns, as the code has it; in the definition, as in the Rust, each column has its own.
use Rattle.std.proofs.Common.{◌≡◌, refl, ap, ◌∙◌}
use Rattle.arith.specs.Flow.{Turn, go, stop, and_then, ◌>>=◌}
use Rattle.vectors.specs.declared.vector.Vec3.{Vec3}
use Rattle.vectors.specs.declared.matrix.Mat3.{Mat3}
use Rattle.vectors.specs.declared.matrix.Cholesky3.{Cholesky3}
use Rattle.vectors.specs.declared.matrix.CholeskyError.{CholeskyError}
use Rattle.vectors.specs.Matrix.{factor_spd_of, factor_solve_of, solve_spd_of, inverse_by, inverse_spd_of}

abbrev inverse_of : Turn Cholesky3 CholeskyError → Turn Mat3 CholeskyError
inverse_of factored = factored >>= λ factor. inverse_by (factor_solve_of factor)

each-column : (factored : Turn Cholesky3 CholeskyError) → inverse_of factored ≡ inverse_by (λ rhs. factored >>= λ factor. factor_solve_of factor rhs)
unfolding inverse_by and_then
each-column (go factor) = refl
each-column (stop e) = refl

-- a matrix factored once is factored as for each of its solves
pub by-factor : (m : Mat3) (rhs : Vec3) {factored : Turn Cholesky3 CholeskyError} {x : Turn Vec3 CholeskyError} → factored ≡ factor_spd_of m
    → x ≡ (factored >>= λ factor. factor_solve_of factor rhs) → x ≡ solve_spd_of m rhs
unfolding solve_spd_of
by-factor m rhs e h = h ∙ ap (λ (f : Turn Cholesky3 CholeskyError). f >>= λ factor. factor_solve_of factor rhs) e

module _ (m : Mat3) where
  once : inverse_of (factor_spd_of m) ≡ inverse_spd_of m
  unfolding inverse_spd_of solve_spd_of
  once = each-column (factor_spd_of m)

  pub unfactored : {e : CholeskyError} → stop e ≡ factor_spd_of m → stop e ≡ inverse_spd_of m
  unfolding and_then
  unfactored e = ap inverse_of e ∙ once

  pub factored : {factor : Cholesky3} {r : Turn Mat3 CholeskyError} → go factor ≡ factor_spd_of m → r ≡ inverse_by (factor_solve_of factor)
      → r ≡ inverse_spd_of m
  unfolding and_then
  factored e h = h ∙ ap inverse_of e ∙ once
