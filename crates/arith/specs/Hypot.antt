-- The hypotenuse: SPECIFICATION §2.2.
use Rattle.std.specs.Prelude.{false, cond, ◌&&◌, Float}
use Rattle.arith.specs.Words.{inf, binary64, eq, lt}
use Rattle.arith.specs.Real.{◌⊕◌, ◌⊗◌, ◌⊘◌, ratio, is_finite, abs_of}
use Rattle.arith.specs.Root.{sqrt}

unfoldable pub scaled_root : Float → Float → Float  -- a the larger magnitude, b the smaller: a times sqrt(1 + r times r) for r = b / a, +0 where a is 0
scaled_root a b = let r = b ⊘ a in cond (eq a (ratio 0 1)) (ratio 0 1) (a ⊗ sqrt binary64 (ratio 1 1 ⊕ r ⊗ r))

unfoldable pub hypot_of : Float → Float → Float  -- an argument that is not finite gives +infinity
hypot_of x y =
    let p = abs_of x in let q = abs_of y in
    cond (is_finite x && is_finite y) (cond (lt p q) (scaled_root q p) (scaled_root p q)) (inf false)
