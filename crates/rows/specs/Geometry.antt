-- geometry.rs: the equality rows of a joint between two bodies.
use Rattle.std.specs.Prelude.{◌^◌, List, [], ◌∷◌, Bool, cond, not, ◌&&◌, ◌||◌, true, false, Float, ◌++◌, ok_or}
use Rattle.rows.specs.Words.{binary64, neg, eq, le, ◌⊕◌, ◌⊖◌, ◌⊗◌, ◌⊘◌, ratio}
use Rattle.rows.specs.Words.{is_finite, abs_of, max_of, sqrt, go, ◌>>=◌, return_if, PI, atan2_of, rem_tau_of, Vec3, Quat, add_of, sub_of}
use Rattle.rows.specs.Words.{scale_of, vec, zero_vec, axis_x, axis_y, axis_z, neg_of, dot_of, cross_of, try_normalize_of, conjugate_of, product_of}
use Rattle.rows.specs.Words.{quat_try_normalize_of, MomentumBody, Linear, Turning, Motions, Joint, EqualityRow, Ends, Axes, Cone, Relative, Swing}
use Rattle.rows.specs.Fault.{NonConvergent, ArithmeticOverflow, Result, try_finite, try_length, try_rotate}
use Rattle.rows.specs.Body.{anchor_of}
use Rattle.rows.specs.Motions.{motions_of}

abbrev pub epsilon : Float  -- f64::EPSILON
epsilon = ratio 1 (2 ^ 52)

unfoldable pub ends_of : Joint → MomentumBody → MomentumBody → Result Ends  -- the locals pa, pb, delta, pa - a.center, pb - b.center, frame_a, frame_b
ends_of joint a b = do
  pa ← anchor_of a joint.frame_a.local_anchor
  pb ← anchor_of b joint.frame_b.local_anchor
  delta ← try_finite (sub_of pb pa)
  let frame_a = product_of a.rotation joint.frame_a.local_rotation
  let frame_b = product_of b.rotation joint.frame_b.local_rotation
  go (record { pa = pa; pb = pb; delta = delta; arm_a = sub_of pa a.center; arm_b = sub_of pb b.center; frame_a = frame_a; frame_b = frame_b })

unfoldable pub tolerance_of : Vec3 → Vec3 → Result Float
tolerance_of pa pb = do
  la ← try_length pa
  lb ← try_length pb
  go (max_of (ratio 32 1 ⊗ epsilon ⊗ (la ⊕ lb)) (ratio 1 (10 ^ 13)))

abbrev pub row_with : Joint → Vec3 → Vec3 → Vec3 → Vec3 → Float → Float → EqualityRow  -- between the joint's bodies: linear and angular of a, then of b
row_with j la aa lb ab value tolerance =
    record { a = j.body_a; b = j.body_b; linear_a = la; angular_a = aa; linear_b = lb; angular_b = ab; value = value; tolerance = tolerance }

unfoldable pub distance_row : Joint → Ends → Float → Result EqualityRow  -- Joint::Distance
distance_row joint e lower = do
  distance ← try_length e.delta
  axis ← ok_or (try_normalize_of e.delta) NonConvergent
  tolerance ← tolerance_of e.pa e.pb
  go (row_with joint (neg_of axis) (neg_of (cross_of e.arm_a axis)) axis (cross_of e.arm_b axis) (distance ⊖ lower) tolerance)

unfoldable pub linear_row : Joint → Ends → Vec3 → Result EqualityRow  -- a pass of the loop over linear
linear_row joint e local_axis = do
  axis ← try_rotate e.frame_a local_axis
  angular_a ← try_finite (sub_of (cross_of axis e.delta) (cross_of e.arm_a axis))
  angular_b ← try_finite (cross_of e.arm_b axis)
  tolerance ← tolerance_of e.pa e.pb
  go (row_with joint (neg_of axis) angular_a axis angular_b (dot_of e.delta axis) tolerance)

abbrev pub turning : Joint → Vec3 → Vec3 → Float → EqualityRow  -- ..EqualityRow::ZERO
turning joint angular_a angular_b value = row_with joint zero_vec angular_a zero_vec angular_b value (ratio 1 (10 ^ 13))

abbrev pub row_if : Bool → Result EqualityRow → Result (List EqualityRow)  -- if !locked { continue; }
row_if locked row = cond locked (row >>= λ r. go (r ∷ [])) (go [])

abbrev pub axes_of : Linear → Axes  -- linear: the axes of frame a along which the anchors' difference is held
axes_of Linear.Point = record { x = true; y = true; z = true }
axes_of Linear.Line = record { x = true; y = true; z = false }
axes_of Linear.Plane = record { x = false; y = false; z = true }

unfoldable pub linear_rows : Linear → Joint → Ends → Result (List EqualityRow)  -- the loop over linear
linear_rows linear joint e = do
  x ← row_if (axes_of linear).x (linear_row joint e axis_x)
  y ← row_if (axes_of linear).y (linear_row joint e axis_y)
  z ← row_if (axes_of linear).z (linear_row joint e axis_z)
  go ((x ++ y) ++ z)

abbrev pub swing_locked : Float → Bool  -- limit == 0.0
swing_locked limit = eq limit (ratio 0 1)

abbrev pub twist_locked : Cone → Bool  -- cone.twist_limit.lower == cone.twist_limit.upper
twist_locked cone = eq cone.twist_lower cone.twist_upper

abbrev pub any_locked : Cone → Bool
any_locked cone = swing_locked cone.swing_x || swing_locked cone.swing_y || twist_locked cone

abbrev pub half_turned : Cone → Float → Bool
half_turned cone norm_squared = le norm_squared (ratio 64 1 ⊗ epsilon ⊗ (ratio 64 1 ⊗ epsilon)) && any_locked cone

unfoldable pub relative_of : Cone → Quat → Quat → Result Relative  -- if let Some(cone): the relative rotation, norm_squared and norm
relative_of cone frame_a frame_b = do
  q ← ok_or (quat_try_normalize_of (product_of (conjugate_of frame_a) frame_b)) ArithmeticOverflow
  let norm_squared = q.w ⊗ q.w ⊕ q.z ⊗ q.z
  _ ← return_if (half_turned cone norm_squared) NonConvergent
  go (record { rotation = q; norm_squared = norm_squared; norm = sqrt binary64 norm_squared })

abbrev pub swing_x : Quat → Swing  -- (numerator, gradient, scalar) of axis 0
swing_x q = record { numerator = q.w ⊗ q.x ⊖ q.z ⊗ q.y; gradient = vec q.w (neg q.z) (neg q.y); scalar = q.x }

abbrev pub swing_y : Quat → Swing  -- and of axis 1
swing_y q = record { numerator = q.w ⊗ q.y ⊕ q.z ⊗ q.x; gradient = vec q.z q.w q.x; scalar = q.y }

abbrev pub local_of : Quat → Vec3 → Float → Vec3  -- (gradient * relative.w + vector.cross(gradient) - vector * scalar) * 0.5
local_of q gradient scalar =
    let vector = vec q.x q.y q.z in
    scale_of (sub_of (add_of (scale_of gradient q.w) (cross_of vector gradient)) (scale_of vector scalar)) (ratio 1 2)

unfoldable pub gradient_row : Joint → Quat → Quat → Vec3 → Float → Float → Result EqualityRow
gradient_row joint frame_a q gradient scalar value =
    try_rotate frame_a (local_of q gradient scalar) >>= λ angular. go (turning joint (neg_of angular) angular value)

unfoldable pub swing_row : Joint → Quat → Relative → Swing → Result EqualityRow  -- a pass of the loop over swing_limit
swing_row joint frame_a r swing =
    let q = r.rotation in let value = ratio 2 1 ⊗ swing.numerator ⊘ r.norm in let cubed = r.norm_squared ⊗ r.norm in
    let gradient = sub_of (scale_of swing.gradient (ratio 2 1 ⊘ r.norm)) (scale_of axis_z (ratio 2 1 ⊗ swing.numerator ⊗ q.z ⊘ cubed)) in
    let scalar = ratio 2 1 ⊗ swing.scalar ⊘ r.norm ⊖ ratio 2 1 ⊗ swing.numerator ⊗ q.w ⊘ cubed in
    gradient_row joint frame_a q gradient scalar value

unfoldable pub twist_row : Joint → Quat → Relative → Float → Result EqualityRow  -- if cone.twist_limit.lower == cone.twist_limit.upper
twist_row joint frame_a r lower = do
  let q = r.rotation
  half ← atan2_of q.z q.w
  let value = rem_tau_of (ratio 2 1 ⊗ half ⊖ lower ⊕ PI) ⊖ PI
  let gradient = scale_of axis_z (ratio 2 1 ⊗ q.w ⊘ r.norm_squared)
  _ ← return_if (le (PI ⊖ ratio 1 (10 ^ 10)) (abs_of value)) NonConvergent
  gradient_row joint frame_a q gradient (neg (ratio 2 1) ⊗ q.z ⊘ r.norm_squared) value

unfoldable pub cone_rows : Joint → Ends → Cone → Result (List EqualityRow)
cone_rows joint e cone = do
  r ← relative_of cone e.frame_a e.frame_b
  x ← row_if (swing_locked cone.swing_x) (swing_row joint e.frame_a r (swing_x r.rotation))
  y ← row_if (swing_locked cone.swing_y) (swing_row joint e.frame_a r (swing_y r.rotation))
  twist ← row_if (twist_locked cone) (twist_row joint e.frame_a r cone.twist_lower)
  go ((x ++ y) ++ twist)

unfoldable pub aligned_of : Quat → Quat → Result Vec3  -- else if align: b's Z axis, which must not lead away from a's
aligned_of frame_a frame_b = do
  z ← try_rotate frame_b axis_z
  za ← try_rotate frame_a axis_z
  _ ← return_if (le (dot_of za z) (ratio 1 (10 ^ 10))) NonConvergent
  go z

unfoldable pub align_row : Joint → Quat → Vec3 → Vec3 → Result EqualityRow
align_row joint frame_a local_axis z = do
  axis ← try_rotate frame_a local_axis
  gradient ← try_finite (cross_of axis z)
  go (turning joint gradient (neg_of gradient) (dot_of axis z))

unfoldable pub align_rows : Joint → Ends → Result (List EqualityRow)
align_rows joint e = do
  z ← aligned_of e.frame_a e.frame_b
  x ← align_row joint e.frame_a axis_x z
  y ← align_row joint e.frame_a axis_y z
  go (x ∷ y ∷ [])

abbrev pub turning_rows : Turning → Joint → Ends → Result (List EqualityRow)
turning_rows turns joint e = elim turns [ Turning.Free ↦ go [] | Turning.Align ↦ align_rows joint e | Turning.Cone cone ↦ cone_rows joint e cone ]

unfoldable pub finite_values : List EqualityRow → Bool  -- out[..count].iter().all(|row| row.value.is_finite())
finite_values [] = true
finite_values (row ∷ rows) = is_finite row.value && finite_values rows

unfoldable pub frame_rows : Linear → Turning → Joint → Ends → Result (List EqualityRow)
frame_rows linear turning joint e = do
  along ← linear_rows linear joint e
  angular ← turning_rows turning joint e
  _ ← return_if (not (finite_values (along ++ angular))) ArithmeticOverflow
  go (along ++ angular)

abbrev pub motion_rows : Motions → Joint → Ends → Result (List EqualityRow)  -- match joint.joint
motion_rows (Motions.Rod length) joint e = distance_row joint e length >>= λ row. go (row ∷ [])
motion_rows (Motions.Frame linear turning) joint e = frame_rows linear turning joint e

unfoldable pub write_equality_rows : Joint → MomentumBody → MomentumBody → Result (List EqualityRow)  -- fn write_equality_rows: what it leaves in out
write_equality_rows joint a b = ends_of joint a b >>= motion_rows (motions_of joint.kind) joint
