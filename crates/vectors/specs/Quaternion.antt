-- quaternion.rs: quaternions (x, y, z, w) as rotations.
use Rattle.std.specs.Prelude.{Option, Some, None, Result, Ok, Err}
use Rattle.std.specs.Prelude.{◌^◌, Bool, cond, not, ◌&&◌, ◌||◌, Float}
use Rattle.vectors.specs.Words.{neg, lt, le, ◌⊕◌, ◌⊖◌, ◌⊗◌, ◌⊘◌, ratio, is_finite, abs_of, max_of}
use Rattle.vectors.specs.Words.{hypot_of, SineCosine, CollisionError, sin_cos_of, Vec3, Mat3, Quat}
use Rattle.vectors.specs.Vector.{vec, cross_of, add_of, scale_of, div_of, finite_of, length_of, normalize_by}
use Rattle.vectors.specs.Matrix.{from_cols}

abbrev pub quat : Float → Float → Float → Float → Quat
quat x y z w = record { x = x; y = y; z = z; w = w }

abbrev pub conjugate_of : Quat → Quat
conjugate_of q = quat (neg q.x) (neg q.y) (neg q.z) q.w

abbrev pub product_of : Quat → Quat → Quat  -- Quat * Quat
product_of a b =
    quat (a.w ⊗ b.x ⊕ a.x ⊗ b.w ⊕ a.y ⊗ b.z ⊖ a.z ⊗ b.y)
    (a.w ⊗ b.y ⊖ a.x ⊗ b.z ⊕ a.y ⊗ b.w ⊕ a.z ⊗ b.x)
    (a.w ⊗ b.z ⊕ a.x ⊗ b.y ⊖ a.y ⊗ b.x ⊕ a.z ⊗ b.w)
    (a.w ⊗ b.w ⊖ a.x ⊗ b.x ⊖ a.y ⊗ b.y ⊖ a.z ⊗ b.z)

abbrev pub quat_length_squared_of : Quat → Float
quat_length_squared_of q = q.x ⊗ q.x ⊕ q.y ⊗ q.y ⊕ q.z ⊗ q.z ⊕ q.w ⊗ q.w

abbrev pub quat_length_of : Quat → Float
quat_length_of q = hypot_of (hypot_of (hypot_of q.x q.y) q.z) q.w

abbrev pub quat_div_of : Quat → Float → Quat
quat_div_of q k = quat (q.x ⊘ k) (q.y ⊘ k) (q.z ⊘ k) (q.w ⊘ k)

abbrev pub quat_finite_of : Quat → Bool
quat_finite_of q = is_finite q.x && is_finite q.y && is_finite q.z && is_finite q.w

abbrev pub quat_largest_of : Quat → Float  -- the largest magnitude of a component
quat_largest_of q = max_of (max_of (max_of (abs_of q.x) (abs_of q.y)) (abs_of q.z)) (abs_of q.w)

abbrev pub quat_try_normalize_of : Quat → Option Quat
quat_try_normalize_of q = normalize_by quat_finite_of quat_largest_of quat_div_of quat_length_of q

unfoldable pub is_normalized_of : Quat → Bool  -- refusal 6's test of a rotation (SPECIFICATION §5): the squares sum to 1 within 2^-44
is_normalized_of q = quat_finite_of q && le (abs_of (quat_length_squared_of q ⊖ ratio 1 1)) (ratio 1 (2 ^ 44))

abbrev pub turned_of : Quat → Vec3 → Vec3  -- v + (u × v) (2 w) + (u × (u × v)) 2, u the first three of q
turned_of q v =
    let u = vec q.x q.y q.z in let f = cross_of u v in
    add_of (add_of v (scale_of f (ratio 2 1 ⊗ q.w))) (scale_of (cross_of u f) (ratio 2 1))

abbrev pub rotated_of : Quat → Vec3 → Option Vec3
rotated_of rotation v = let turned = turned_of rotation v in cond (finite_of turned) (Some turned) None

abbrev pub rotated_by : Vec3 → Option Quat → Option Vec3
rotated_by v unit = elim unit [ Some rotation ↦ rotated_of rotation v | None ↦ None ]

unfoldable pub rotate_vector_of : Quat → Vec3 → Option Vec3
rotate_vector_of q v = cond (not (finite_of v)) None (rotated_by v (quat_try_normalize_of q))

abbrev pub columns_of : Quat → Mat3  -- the columns of the matrix of a rotation
columns_of q =
    let x = q.x in let y = q.y in let z = q.z in let w = q.w in
    from_cols (vec (ratio 1 1 ⊖ ratio 2 1 ⊗ (y ⊗ y ⊕ z ⊗ z)) (ratio 2 1 ⊗ (x ⊗ y ⊕ z ⊗ w)) (ratio 2 1 ⊗ (x ⊗ z ⊖ y ⊗ w)))
    (vec (ratio 2 1 ⊗ (x ⊗ y ⊖ z ⊗ w)) (ratio 1 1 ⊖ ratio 2 1 ⊗ (x ⊗ x ⊕ z ⊗ z)) (ratio 2 1 ⊗ (y ⊗ z ⊕ x ⊗ w)))
    (vec (ratio 2 1 ⊗ (x ⊗ z ⊕ y ⊗ w)) (ratio 2 1 ⊗ (y ⊗ z ⊖ x ⊗ w)) (ratio 1 1 ⊖ ratio 2 1 ⊗ (x ⊗ x ⊕ y ⊗ y)))

abbrev pub columns_for : Option Quat → Option Mat3
columns_for (Some rotation) = Some (columns_of rotation)
columns_for None = None

unfoldable pub to_mat3_of : Quat → Option Mat3
to_mat3_of q = columns_for (quat_try_normalize_of q)

abbrev pub small_turn : Vec3 → Float → Quat  -- integrate_world_angular_velocity, from here: the turn below 1e-8 radians
small_turn r angle =
    let factor = ratio 1 2 ⊖ angle ⊗ angle ⊘ ratio 48 1 in
    quat (r.x ⊗ factor) (r.y ⊗ factor) (r.z ⊗ factor) (ratio 1 1 ⊖ angle ⊗ angle ⊘ ratio 8 1)

-- about an axis, by the sine and cosine of half the angle; nothing where those are refused
abbrev pub turn_about : Vec3 → Result SineCosine CollisionError → Option Quat
turn_about axis (Ok t) = Some (quat (axis.x ⊗ t.s) (axis.y ⊗ t.s) (axis.z ⊗ t.s) t.c)
turn_about axis (Err e) = None

unfoldable pub delta_of : Vec3 → Option Quat  -- the turn about a rotation vector by its length
delta_of r =
    let angle = length_of r in
    cond (not (finite_of r)) None
    (cond (not (is_finite angle)) None
    (cond (lt angle (ratio 1 (10 ^ 8))) (Some (small_turn r angle))
    (turn_about (div_of r angle) (sin_cos_of (angle ⊗ ratio 1 2)))))

abbrev pub integrated : Option Quat → Option Quat → Option Quat  -- delta? * rotation?, normalized
integrated (Some delta) (Some rotation) = quat_try_normalize_of (product_of delta rotation)
integrated (Some delta) None = None
integrated None rotation = None

abbrev pub delta_in : Vec3 → Float → Option Quat  -- the turn by an angular velocity in the time dt
delta_in velocity dt = cond (not (finite_of velocity) || not (is_finite dt)) None (delta_of (scale_of velocity dt))

unfoldable pub integrate_of : Quat → Vec3 → Float → Option Quat
integrate_of q velocity dt = integrated (delta_in velocity dt) (quat_try_normalize_of q)
