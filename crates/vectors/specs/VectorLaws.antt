-- Laws of `Vector`: Vec3::ZERO, X, Y and Z as the code has them.
use Rattle.std.specs.Float.Ieee.{of_bits, round}
use Rattle.std.specs.Prelude.{◌≡◌, refl}
use Rattle.arith.specs.Real.{F}
use Rattle.vectors.specs.Vector.{vec, zero_vec, axis_x, axis_y, axis_z}

pub zero-vec-is : vec (F 0) (F 0) (F 0) ≡ zero_vec
unfolding of_bits round
zero-vec-is = refl

pub axis-x-is : vec (F 0x3ff0_0000_0000_0000) (F 0) (F 0) ≡ axis_x
unfolding of_bits round
axis-x-is = refl

pub axis-y-is : vec (F 0) (F 0x3ff0_0000_0000_0000) (F 0) ≡ axis_y
unfolding of_bits round
axis-y-is = refl

pub axis-z-is : vec (F 0) (F 0) (F 0x3ff0_0000_0000_0000) ≡ axis_z
unfolding of_bits round
axis-z-is = refl
