-- Sine and cosine of an angle from 0 to 4, the arc tangent of a quotient and the remainder by a whole turn: SPECIFICATION §2.3 to §2.5.
use Rattle.std.specs.Prelude.{ℕ, zero, suc, ◌*◌, cond, ◌&&◌, List, [], ◌∷◌, Float, Result, Ok, Err}
use Rattle.arith.specs.Words.{binary64, neg, eq, lt, le, rem, SineCosine}
use Rattle.arith.specs.Fault.{CollisionError, ArithmeticOverflow}
use Rattle.arith.specs.Real.{◌⊕◌, ◌⊖◌, ◌⊗◌, ◌⊘◌, F, ratio, is_finite, abs_of}
use Rattle.arith.specs.Root.{sqrt}

-- Rust's doubles: the nearest to 3.14159265358979323846264338327950288 and to 6.28318530717958647692528676655900577, Rust's literals (Laws.Constants)
abbrev pub PI : Float
PI = F 0x4009_21fb_5444_2d18

abbrev pub TAU : Float
TAU = F 0x4019_21fb_5444_2d18

unfoldable pub factorial : ℕ → ℕ
factorial zero = 1
factorial (suc n) = suc n * factorial n

unfoldable pub horner : Float → Float → List Float → Float  -- from the highest power down: a, then for each c of the list a times z plus c
horner z a [] = a
horner z a (c ∷ cs) = horner z (a ⊗ z ⊕ c) cs

abbrev pub part : ℕ → Float  -- 1 / n, rounded once
part n = ratio 1 n

abbrev pub neg_part : ℕ → Float  -- -1 / n, rounded once
neg_part n = neg (ratio 1 n)

unfoldable pub sine_sum : Float → Float  -- x - x³/3! + .. + x¹³/13!, by Horner in x², then times x
sine_sum x =
    horner (x ⊗ x) (part (factorial 13))
    (neg_part (factorial 11) ∷ part (factorial 9) ∷ neg_part (factorial 7) ∷ part (factorial 5) ∷ neg_part (factorial 3) ∷ part 1 ∷ []) ⊗ x

unfoldable pub cosine_sum : Float → Float  -- 1 - x²/2! + .. - x¹⁴/14!
cosine_sum x =
    horner (x ⊗ x) (neg_part (factorial 14))
    (part (factorial 12) ∷ neg_part (factorial 10) ∷ part (factorial 8) ∷ neg_part (factorial 6) ∷ part (factorial 4) ∷ neg_part (factorial 2) ∷ part 1 ∷ [])

unfoldable pub sums_at : Float → SineCosine
sums_at x = record { s = sine_sum x; c = cosine_sum x }

unfoldable pub doubled : SineCosine → SineCosine  -- s becomes (2 times s) times c, and c becomes 1 - (2 times s) times s, both from the old s and c
doubled t = record { s = ratio 2 1 ⊗ t.s ⊗ t.c; c = ratio 1 1 ⊖ ratio 2 1 ⊗ t.s ⊗ t.s }

unfoldable pub halved_of : ℕ → Float → SineCosine  -- x halved until it is at most 1/2, the sums there, doubled as often; k halvings are allowed
halved_of zero x = sums_at x
halved_of (suc k) x = cond (le x (ratio 1 2)) (sums_at x) (doubled (halved_of k (x ⊗ ratio 1 2)))

-- below 0, above 4 or not a number: refused. At most 4 is at most 1/2 after three halvings
unfoldable pub sin_cos_of : Float → Result SineCosine CollisionError
sin_cos_of h = cond (lt h (ratio 0 1)) (Err ArithmeticOverflow) (cond (le h (ratio 4 1)) (Ok (halved_of 3 h)) (Err ArithmeticOverflow))

unfoldable pub half_tangent : Float → Float  -- the arc tangent, from here to atan2_of: q becomes q / (1 + sqrt(1 + q times q))
half_tangent q = q ⊘ (ratio 1 1 ⊕ sqrt binary64 (ratio 1 1 ⊕ q ⊗ q))

unfoldable pub arc_sum : Float → Float  -- q - q³/3 + .. - q²³/23: Horner in q², then times q
arc_sum q =
    horner (q ⊗ q) (neg_part 23)
    (part 21 ∷ neg_part 19 ∷ part 17 ∷ neg_part 15 ∷ part 13 ∷ neg_part 11 ∷ part 9 ∷ neg_part 7 ∷ part 5 ∷ neg_part 3 ∷ part 1 ∷ []) ⊗ q

unfoldable pub octant : Float → Float  -- the angle whose tangent is q, at most 1
octant q = arc_sum (half_tangent (half_tangent q)) ⊗ ratio 4 1

unfoldable pub quadrant : Float → Float → Float  -- the angle of the magnitudes: q is the smaller over the larger; PI/2 - v where |y| > |x|
quadrant ay ax = cond (lt ax ay) (PI ⊘ ratio 2 1 ⊖ octant (ax ⊘ ay)) (octant (ay ⊘ ax))

unfoldable pub facing : Float → Float → Float  -- then PI - v where x < 0
facing v x = cond (lt x (ratio 0 1)) (PI ⊖ v) v

unfoldable pub angle_of : Float → Float → Float  -- then -v where y < 0
angle_of y x = let w = facing (quadrant (abs_of y) (abs_of x)) x in cond (lt y (ratio 0 1)) (neg w) w

unfoldable pub atan2_of : Float → Float → Result Float CollisionError  -- signs by comparison, so -0 counts as 0; both 0 gives +0; what is not finite is refused
atan2_of y x =
    cond (is_finite y && is_finite x)
    (Ok (cond (eq x (ratio 0 1) && eq y (ratio 0 1)) (ratio 0 1) (angle_of y x)))
    (Err ArithmeticOverflow)

unfoldable pub rem_tau_of : Float → Float  -- `rem_euclid` by TAU: the language's %, plus TAU where that is below 0
rem_tau_of x = let r = rem binary64 x TAU in cond (lt r (ratio 0 1)) (r ⊕ TAU) r
