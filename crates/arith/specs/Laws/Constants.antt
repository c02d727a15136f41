-- The code's literals are the fractions of the definitions, rounded once. PI and TAU are the doubles nearest to Rust's literals.
use Rattle.std.specs.Float.Ieee.{of_bits, round}
use Rattle.std.specs.Prelude.{◌≡◌, refl, ◌^◌}
use Rattle.arith.specs.Real.{F, ratio}
use Rattle.arith.specs.Angle.{PI, TAU}

pub pi-nearest : PI ≡ ratio 314159265358979323846264338327950288 (10 ^ 35)
unfolding of_bits round
pi-nearest = refl

pub tau-nearest : TAU ≡ ratio 628318530717958647692528676655900577 (10 ^ 35)
unfolding of_bits round
tau-nearest = refl

pub zero_is : F 0 ≡ ratio 0 1
unfolding of_bits round
zero_is = refl

pub half_is : F 0x3fe0_0000_0000_0000 ≡ ratio 1 2
unfolding of_bits round
half_is = refl

pub one-is : F 0x3ff0_0000_0000_0000 ≡ ratio 1 1
unfolding of_bits round
one-is = refl

pub two_is : F 0x4000_0000_0000_0000 ≡ ratio 2 1
unfolding of_bits round
two_is = refl

pub four_is : F 0x4010_0000_0000_0000 ≡ ratio 4 1
unfolding of_bits round
four_is = refl

pub tenth-12 : F 0x3d71_9799_812d_ea11 ≡ ratio 1 (10 ^ 12)
unfolding of_bits round
tenth-12 = refl
