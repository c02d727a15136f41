-- The rounding error of a product of any magnitude: a part in 2 ^ 53 of it, and half of the smallest double.
use Rattle.std.specs.Prelude.{◌≡◌, Bool, true, false, not, [], ◌∷◌, ℕ, ◌+◌, ◌*◌, ◌^◌, ◌≤◌, ◌<◌, T, Float}
use Rattle.std.proofs.Common.{sym, subst, mul-pos, mul-le-mul_right, zero-lt-suc, arith, lit<, pow_pos}
use mathlib.Core.Quot.{sound}
use Rattle.std.specs.Float.{nan, inf, fin, binary64}
use Rattle.std.specs.Float.Ieee.{up, down, round, mul}
use Rattle.std.specs.Float.Ieee.Fits.{down_pos}
use Rattle.std.specs.Float.Ieee.Scale.{finite, grid, round_under}
use Rattle.exact.specs.Rat.{ℚ, Fr, mk, ◌+q◌, ◌-q◌, ◌*q◌, ◌≤q◌, ≤-mk, ≤q-sub, sub-≤q, 0≤-add}
pub use Rattle.exact.specs.Fraction.{Near, tiny}
use Rattle.exact.specs.Abs.{0≤}
use Rattle.exact.specs.Ring.{var, ◌:+◌, ◌:-◌, same, ring}
use Rattle.exact.specs.Grid.{kept_near}
use Rattle.exact.specs.Val.{val, sg, sg_f, has→val, round-has, times}

pub near-mono : (e f a b : ℚ) → e ≤q f → Near e a b → Near f a b
unfolding same
near-mono e f a b l n =
    let k = ≤q-sub e f l in
    let ρ = e ∷ f ∷ a ∷ b ∷ [] in (
      sub-≤q a (b +q f) (subst 0≤ (ring ρ ((var 3 :+ var 0 :- var 2) :+ (var 1 :- var 0)) (var 3 :+ var 1 :- var 2) tt)
          (0≤-add (b +q e -q a) (f -q e) (≤q-sub a (b +q e) n.0) k)),
      sub-≤q b (a +q f) (subst 0≤ (ring ρ ((var 2 :+ var 0 :- var 3) :+ (var 1 :- var 0)) (var 2 :+ var 1 :- var 3) tt)
          (0≤-add (a +q e -q b) (f -q e) (≤q-sub b (a +q e) n.1) k)),
    )

-- 2 ^ -53, and 2 ^ -1075
abbrev pub part : Fr
part = record { p = 1; n = 0; d = 9007199254740992; dp = lit< tt }

abbrev pub least : ℚ
least = sg false 1 (2 ^ 1074 * 2) (mul-pos (pow_pos 1074) (zero-lt-suc 1))

-- ---- in variables: the value is g / L, the fraction num / den, the part 1 / (h * 2)
module _ (num den g L h : ℕ) (D : 0 < den) (P : 0 < L) (H : 0 < h * 2) where
  abbrev part_of : Fr
  part_of = record { p = 1; n = 0; d = h * 2; dp = H }

  abbrev half-unit : ℚ
  half-unit = sg false 1 (L * 2) (mul-pos P (zero-lt-suc 1))

  -- both over den * L * (h * 2)
  abbrev over : ℕ → Fr
  over a = record { p = a; n = 0; d = den * L * (h * 2); dp = mul-pos (mul-pos D P) H }

  exact-more-is : sg false num den D +q (sg false num den D *q mk part_of +q half-unit) ≡ mk (over (num * L * (h * 2) + (num * L + h * den)))
  unfolding ◌+q◌ ◌*q◌
  exact-more-is = sound (omega arith)

  rounded-more-is : sg false g L P +q (sg false num den D *q mk part_of +q half-unit) ≡ mk (over (g * den * (h * 2) + (num * L + h * den)))
  unfolding ◌+q◌ ◌*q◌
  rounded-more-is = sound (omega arith)

  near-at : g * den * (h * 2) ≤ num * L * (h * 2) + (num * L + h * den) → num * L * (h * 2) ≤ g * den * (h * 2) + (num * L + h * den)
      → Near (sg false num den D *q mk part_of +q half-unit) (sg false g L P) (sg false num den D)
  near-at a b = (
    subst (λ z. sg false g L P ≤q z) (sym exact-more-is)
        (≤-mk (sg_f false g L P) (over (num * L * (h * 2) + (num * L + h * den))) (let z = mul-le-mul_right L a in omega arith)),
    subst (λ z. sg false num den D ≤q z) (sym rounded-more-is)
        (≤-mk (sg_f false num den D) (over (g * den * (h * 2) + (num * L + h * den))) (let z = mul-le-mul_right den b in omega arith)),
  )

pub round-near : (num den : ℕ) (D : 0 < den) → T (finite (round binary64 false num den))
    → Near (sg false num den D *q mk part +q least) (val (round binary64 false num den)) (sg false num den D)
round-near num den D t =
    let g = grid binary64 num den in
    let v = has→val (round binary64 false num den) false g (2 ^ 1074) (pow_pos 1074) (round-has false num den (round_under binary64 num den t)) in
    let n = kept_near 53 (num * 2 ^ 1074) den (zero-lt-suc 52) D in
    subst (λ z. Near (sg false num den D *q mk part +q least) z (sg false num den D)) (sym v.1)
    (near-at num den g (2 ^ 1074) (2 ^ 52) D (pow_pos 1074) (lit< tt) n.0 n.1)

-- finite, and with the sign +
abbrev pub unsigned : Float → Bool
unsigned nan = false
unsigned (inf s) = false
unsigned (fin s m e) = not s

pub mul-near : (x y : Float) → T (unsigned x) → T (unsigned y) → T (finite (mul binary64 x y))
    → Near (val x *q val y *q mk part +q least) (val (mul binary64 x y)) (val x *q val y)
unfolding mul
mul-near nan y p q t = absurd p
mul-near (inf s) y p q t = absurd p
mul-near (fin s m e) nan p q t = absurd q
mul-near (fin s m e) (inf r) p q t = absurd q
mul-near (fin true m e) (fin s n d) p q t = absurd p
mul-near (fin false m e) (fin true n d) p q t = absurd q
mul-near (fin false m e) (fin false n d) p q t =
    subst (λ v. Near (v *q mk part +q least) (val (round binary64 false (m * up e * (n * up d)) (down e * down d))) v)
    (times false false (m * up e) (n * up d) (down e) (down d) (down_pos e) (down_pos d))
    (round-near (m * up e * (n * up d)) (down e * down d) (mul-pos (down_pos e) (down_pos d)) t)
