-- vector.rs: vectors of three doubles, by component, sums from the left.
use Rattle.std.specs.Prelude.{Option, Some, None}
use Rattle.std.specs.Prelude.{ℕ, ◌+◌, List, Bool, cond, not, ◌&&◌, ◌||◌, Float, get_or}
use Rattle.vectors.specs.Words.{nan, neg, eq, ◌⊕◌, ◌⊖◌, ◌⊗◌, ◌⊘◌, ratio, is_finite, abs_of, max_of}
use Rattle.vectors.specs.Words.{hypot_of, Vec3}

abbrev pub vec : Float → Float → Float → Vec3
vec x y z = record { x = x; y = y; z = z }

abbrev pub at : List Float → ℕ → Float  -- s[i]
at s i = get_or s i nan

abbrev pub vec3_at : List Float → ℕ → Vec3  -- the vector that begins at s[i]
vec3_at s i = vec (at s i) (at s (i + 1)) (at s (i + 2))

abbrev pub zero_vec : Vec3  -- Vec3::ZERO
zero_vec = vec (ratio 0 1) (ratio 0 1) (ratio 0 1)

abbrev pub axis_x : Vec3  -- Vec3::X
axis_x = vec (ratio 1 1) (ratio 0 1) (ratio 0 1)

abbrev pub axis_y : Vec3  -- Vec3::Y
axis_y = vec (ratio 0 1) (ratio 1 1) (ratio 0 1)

abbrev pub axis_z : Vec3  -- Vec3::Z
axis_z = vec (ratio 0 1) (ratio 0 1) (ratio 1 1)

abbrev pub dot_of : Vec3 → Vec3 → Float
dot_of v w = v.x ⊗ w.x ⊕ v.y ⊗ w.y ⊕ v.z ⊗ w.z

abbrev pub cross_of : Vec3 → Vec3 → Vec3
cross_of v w = vec (v.y ⊗ w.z ⊖ v.z ⊗ w.y) (v.z ⊗ w.x ⊖ v.x ⊗ w.z) (v.x ⊗ w.y ⊖ v.y ⊗ w.x)

abbrev pub add_of : Vec3 → Vec3 → Vec3
add_of v w = vec (v.x ⊕ w.x) (v.y ⊕ w.y) (v.z ⊕ w.z)

abbrev pub sub_of : Vec3 → Vec3 → Vec3
sub_of v w = vec (v.x ⊖ w.x) (v.y ⊖ w.y) (v.z ⊖ w.z)

abbrev pub scale_of : Vec3 → Float → Vec3
scale_of v k = vec (v.x ⊗ k) (v.y ⊗ k) (v.z ⊗ k)

abbrev pub div_of : Vec3 → Float → Vec3
div_of v k = vec (v.x ⊘ k) (v.y ⊘ k) (v.z ⊘ k)

abbrev pub neg_of : Vec3 → Vec3
neg_of v = vec (neg v.x) (neg v.y) (neg v.z)

abbrev pub finite_of : Vec3 → Bool
finite_of v = is_finite v.x && is_finite v.y && is_finite v.z

abbrev pub length_of : Vec3 → Float
length_of v = hypot_of (hypot_of v.x v.y) v.z

abbrev pub largest_of : Vec3 → Float  -- the largest magnitude of a component
largest_of v = max_of (max_of (abs_of v.x) (abs_of v.y)) (abs_of v.z)

-- try_normalize, of vectors and of quaternions: divided by the largest magnitude, then by the length of that; nothing for zero and what is not finite
unfoldable pub normalize_by : {A : Type 0} → (A → Bool) → (A → Float) → (A → Float → A) → (A → Float) → A → Option A
normalize_by finite largest div length v =
    let scale = largest v in let scaled = div v scale in let len = length scaled in
    cond (not (finite v)) None
    (cond (eq scale (ratio 0 1)) None
    (cond (not (is_finite len) || eq len (ratio 0 1)) None
    (Some (div scaled len))))

abbrev pub try_normalize_of : Vec3 → Option Vec3
try_normalize_of v = normalize_by finite_of largest_of div_of length_of v

unfoldable pub checked_length_of : Vec3 → Option Float
checked_length_of v = cond (is_finite (length_of v)) (Some (length_of v)) None
