-- The ten examples of SPECIFICATION §15 that are proved: one table, by one computed test. A line has the bits that the definitions
-- answer and the bits that SPECIFICATION gives.
use Rattle.std.specs.Prelude.{Option, Some, None}
use Prim.Native.Nat.{ℕ, ◌^◌}
use mathlib.Core.Bool.{Bool, true, false, ◌&&◌}
use mathlib.Core.List.{List, [], ◌∷◌, ◌++◌}
use lib.Dec.{T, eqb}
use lib.Ieee.{Float, binary64, add, sub, mul, div, neg, lt, le, eq, round, to_bits, of_bits}
use Rattle.arith.specs.Real.{◌⊘◌, ratio, is_finite, abs_of}
use Rattle.arith.specs.Root.{root_in, root, round_root, sqrt}
use Rattle.arith.specs.Hypot.{scaled_root, hypot_of}
use Rattle.arith.specs.Angle.{PI, horner, arc_sum, half_tangent, octant, quadrant, facing, angle_of, atan2_of}
use Rattle.arith.specs.Flow.{Turn, go, stop, turns, loop, and_then}
use Rattle.vectors.specs.declared.vector.Vec3.{Vec3}
use Rattle.vectors.specs.declared.matrix.Mat3.{Mat3}
use Rattle.vectors.specs.declared.matrix.CholeskyError.{CholeskyError}
use Rattle.vectors.specs.declared.quaternion.Quat.{Quat}
use Rattle.vectors.specs.Vector.{vec, zero_vec, axis_x, axis_y, axis_z, normalize_by, checked_length_of}
use Rattle.vectors.specs.Matrix.{column_of, from_cols, correction_of, entry_of, factor_row_of, factor_of, factor_spd_of, factor_solve_of, solve_spd_of}
use Rattle.vectors.specs.Matrix.{inverse_by, inverse_spd_of}
use Rattle.vectors.specs.Quaternion.{quat, rotate_vector_of}
use Rattle.rows.specs.declared.body.MomentumBody.{MomentumBody}
use Rattle.rows.specs.declared.geometry.Kind.TheVariants.{Distance}
use Rattle.rows.specs.declared.geometry.JointFrame.{JointFrame}
use Rattle.rows.specs.declared.geometry.Joint.{Joint}
use Rattle.rows.specs.declared.geometry.EqualityRow.{EqualityRow}
use Rattle.rows.specs.Fault.{CollisionError, Result, try_finite}
use Rattle.rows.specs.Body.{anchor_of}
use Rattle.rows.specs.Geometry.{ends_of, tolerance_of, distance_row, write_equality_rows}

-- ---- answers as bits; one that is refused has none
abbrev whole : ℕ → Float
whole n = ratio n 1

abbrev bits : Float → List ℕ
bits x = to_bits binary64 x ∷ []

abbrev vector : Vec3 → List ℕ
vector v = to_bits binary64 v.x ∷ to_bits binary64 v.y ∷ to_bits binary64 v.z ∷ []

abbrev angle : Turn Float CollisionError → List ℕ
angle (go x) = bits x
angle (stop e) = []

abbrev turned : Option Vec3 → List ℕ
turned (Some v) = vector v
turned None = []

abbrev matrix : Mat3 → List ℕ
matrix m = vector (column_of m 0) ++ vector (column_of m 1) ++ vector (column_of m 2)

-- 1 where there is an inverse, and it behind that
abbrev inverted : Turn Mat3 CholeskyError → List ℕ
inverted (go inverse) = 1 ∷ matrix inverse
inverted (stop e) = 0 ∷ []

-- value and tolerance of each row
unfoldable numbers : List EqualityRow → List ℕ
numbers [] = []
numbers (row ∷ rows) = to_bits binary64 row.value ∷ to_bits binary64 row.tolerance ∷ numbers rows

abbrev written : Result (List EqualityRow) → List ℕ
written (go rows) = numbers rows
written (stop fault) = []

-- ---- what the examples are about
abbrev diagonal : Float → Float → Float → Mat3
diagonal x y z = from_cols (vec x (whole 0) (whole 0)) (vec (whole 0) y (whole 0)) (vec (whole 0) (whole 0) z)

abbrev straight : Quat
straight = quat (whole 0) (whole 0) (whole 0) (whole 1)

-- a body of mass 1 at rest, with its centre there
abbrev resting : Vec3 → MomentumBody
resting center = record {
  center = center;
  rotation = straight;
  momentum = zero_vec;
  spin = zero_vec;
  mass = whole 1;
  center_of_mass = zero_vec;
  inverse_inertia = from_cols axis_x axis_y axis_z;
}

abbrev frame : JointFrame
frame = record { local_anchor = zero_vec; local_rotation = straight }

abbrev rod : Float → Joint
rod length = record { body_a = 0; body_b = 1; frame_a = frame; frame_b = frame; kind = Distance length }

-- ---- the table
abbrev table : List (List ℕ × List ℕ)
table =
    -- sqrt 4 = 2
    (bits (sqrt binary64 (whole 4)), bits (whole 2))
    -- sqrt 2 = 3ff6a09e667f3bcd
    ∷ (bits (sqrt binary64 (whole 2)), 0x3ff6_a09e_667f_3bcd ∷ [])
    -- sqrt 2^-1074 = 2^-537
    ∷ (bits (sqrt binary64 (ratio 1 (2 ^ 1074))), bits (ratio 1 (2 ^ 537)))
    -- hypot(3, 4) = 5
    ∷ (bits (hypot_of (whole 3) (whole 4)), bits (whole 5))
    -- hypot(0, 0) = 0
    ∷ (bits (hypot_of (whole 0) (whole 0)), bits (whole 0))
    -- atan2(1, 0) = PI/2
    ∷ (angle (atan2_of (whole 1) (whole 0)), bits (PI ⊘ whole 2))
    -- atan2(0, -1) = PI
    ∷ (angle (atan2_of (whole 0) (neg (whole 1))), bits PI)
    -- (0, 0, 1, 0) turns (1, 0, 0) into (-1, 0, 0)
    ∷ (turned (rotate_vector_of (quat (whole 0) (whole 0) (whole 1) (whole 0)) axis_x), vector (vec (neg (whole 1)) (whole 0) (whole 0)))
    -- inertia diagonal 4, 4, 1 inverts to 1/4, 1/4, 1
    ∷ (inverted (inverse_spd_of (diagonal (whole 4) (whole 4) (whole 1))), 1 ∷ matrix (diagonal (ratio 1 4) (ratio 1 4) (whole 1)))
    -- rod 5 between (0, 0, 0) and (3, 4, 0): value 0, tolerance 1e-13
    ∷ (
      written (write_equality_rows (rod (whole 5)) (resting zero_vec) (resting (vec (whole 3) (whole 4) (whole 0)))),
      bits (whole 0) ++ bits
          (ratio 1 (10 ^ 13)),
    )
    ∷ []

unfoldable same : List ℕ → List ℕ → Bool
same [] [] = true
same [] (y ∷ ys) = false
same (x ∷ xs) [] = false
same (x ∷ xs) (y ∷ ys) = eqb x y && same xs ys

unfoldable right : List (List ℕ × List ℕ) → Bool
right [] = true
right (line ∷ lines) = same line.0 line.1 && right lines

starred : T (right table)
unfolding right same numbers write_equality_rows ends_of tolerance_of distance_row anchor_of try_finite rotate_vector_of normalize_by checked_length_of
    correction_of entry_of factor_row_of factor_of factor_spd_of factor_solve_of solve_spd_of inverse_by inverse_spd_of
    turns loop and_then horner arc_sum half_tangent
    octant quadrant
    facing angle_of atan2_of hypot_of scaled_root sqrt round_root root root_in is_finite abs_of add sub mul div neg lt le eq round to_bits of_bits
starred = tt
