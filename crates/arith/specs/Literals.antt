-- The literals of the code as the fractions that the definitions write: each is the double nearest to its fraction. A function whose contract has
-- such a fraction names `literals` in its `using`.
use Rattle.std.specs.Prelude.{◌≡◌, ◌^◌, refl}
use Rattle.std.specs.Float.Ieee.{of_bits, round}
use Rattle.arith.specs.Real.{F, ratio}

pub zero : F 0 ≡ ratio 0 1
unfolding of_bits round
zero = refl

pub one : F 0x3ff0_0000_0000_0000 ≡ ratio 1 1
unfolding of_bits round
one = refl

pub two : F 0x4000_0000_0000_0000 ≡ ratio 2 1
unfolding of_bits round
two = refl

pub half : F 0x3fe0_0000_0000_0000 ≡ ratio 1 2
unfolding of_bits round
half = refl

pub four : F 0x4010_0000_0000_0000 ≡ ratio 4 1
unfolding of_bits round
four = refl

pub eight : F 0x4020_0000_0000_0000 ≡ ratio 8 1
unfolding of_bits round
eight = refl

pub thirty_two : F 0x4040_0000_0000_0000 ≡ ratio 32 1
unfolding of_bits round
thirty_two = refl

pub forty_eight : F 0x4048_0000_0000_0000 ≡ ratio 48 1
unfolding of_bits round
forty_eight = refl

pub sixty_four : F 0x4050_0000_0000_0000 ≡ ratio 64 1
unfolding of_bits round
sixty_four = refl

pub eighth : F 0x3fc0_0000_0000_0000 ≡ ratio 1 8
unfolding of_bits round
eighth = refl

pub ground : F 0x40c0_0000_0000_0000 ≡ ratio 8192 1
unfolding of_bits round
ground = refl

pub lightest : F 0x3f50_0000_0000_0000 ≡ ratio 1 (2 ^ 10)
unfolding of_bits round
lightest = refl

pub heaviest : F 0x4130_0000_0000_0000 ≡ ratio (2 ^ 20) 1
unfolding of_bits round
heaviest = refl

pub epsilon : F 0x3cb0_0000_0000_0000 ≡ ratio 1 (2 ^ 52)
unfolding of_bits round
epsilon = refl

pub symmetry : F 0x3d00_0000_0000_0000 ≡ ratio 32 (2 ^ 52)
unfolding of_bits round
symmetry = refl

pub rotation : F 0x3d30_0000_0000_0000 ≡ ratio 1 (2 ^ 44)
unfolding of_bits round
rotation = refl

pub ten_to_minus_8 : F 0x3e45_798e_e230_8c3a ≡ ratio 1 (10 ^ 8)
unfolding of_bits round
ten_to_minus_8 = refl

pub ten_to_minus_10 : F 0x3ddb_7cdf_d9d7_bdbb ≡ ratio 1 (10 ^ 10)
unfolding of_bits round
ten_to_minus_10 = refl

pub ten_to_minus_12 : F 0x3d71_9799_812d_ea11 ≡ ratio 1 (10 ^ 12)
unfolding of_bits round
ten_to_minus_12 = refl

pub ten_to_minus_13 : F 0x3d3c_25c2_6849_7682 ≡ ratio 1 (10 ^ 13)
unfolding of_bits round
ten_to_minus_13 = refl

pub ten_to_minus_14 : F 0x3d06_849b_86a1_2b9b ≡ ratio 1 (10 ^ 14)
unfolding of_bits round
ten_to_minus_14 = refl

pub ruleset literals = (
  zero,
  one,
  two,
  half,
  four,
  eight,
  thirty_two,
  forty_eight,
  sixty_four,
  eighth,
  ground,
  lightest,
  heaviest,
  epsilon,
  symmetry,
  rotation,
  ten_to_minus_8,
  ten_to_minus_10,
  ten_to_minus_12,
  ten_to_minus_13,
  ten_to_minus_14,
)
