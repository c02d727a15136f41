-- The definition `sqrt` is IEEE 754's: for every finite x above 0 no representable value is
-- nearer to the root of x than r = `sqrt binary64 x`, and none is as near.
-- The root is compared with the middle of z and r, both squared: 4 x with (z + r)². Where z is below r,
-- the root is above the middle; where z is above r, below it. So there is no tie.
-- (A z below 0 is farther from the root than 0 is, which is representable.) And r is itself finite and representable.
use Rattle.std.specs.Prelude.{◌≡◌, refl, ◌⊎◌, true, false, ℕ, zero, suc, ◌+◌, ◌-◌, ◌*◌, ◌^◌, ◌≤◌, ◌<◌, T, Float}
use Rattle.std.proofs.Common.{sym, ap, ap₂, ◌∙◌, subst, subst₂, inl, inr, lt_of_lt_of_le, lt_of_le_of_lt, not-le_of_lt, mul-pos, mul-le-mul, mul-le-mul_left}
use Rattle.std.proofs.Common.{mul-le-mul_right, mul-lt-mul_of_pos_right, le_of_lt, eq-or-lt_of_le, zero-lt-suc, zero-mul, lt_irrefl, arith, pow_pos, lt→ltb}
use Rattle.std.proofs.Common.{lit≤}
use Rattle.std.proofs.Math.Dec.{nleb→lt}
use Rattle.std.specs.Float.{nan, inf, fin, binary64}
use Rattle.std.specs.Float.Ieee.{up, down, fits}
use Rattle.std.specs.Float.Ieee.Scale.{finite}
use Rattle.std.specs.Float.Ieee.Positive.{positive}
use mathlib.Core.Quot.{sound}
use Rattle.exact.specs.Rat.{qn, whole, leq, ◌+q◌, ◌*q◌, ◌<q◌, *q-mk}
use Rattle.exact.specs.Abs.{0≤}
use Rattle.exact.specs.Val.{val, sg, sg_f, has→val, plus, times}
use Rattle.arith.specs.Root.{sqrt}
use Rattle.arith.specs.Answered.{NearRoot}
use Rattle.arith.specs.Laws.RootUnits.{RootUnits, root-units}
use Rattle.arith.specs.Laws.Spacing.{above-next, below_next, L, frac, less-frac, frac-less, zero-both, Grid, grid}

-- ---- in whole numbers of units: the root is q * 2 ^ k, z is m * 2 ^ j
-- the middle of z and the root, squared, against v = n * 4 ^ k
square_le : (a b : ℕ) → a ≤ b → a * a ≤ b * b
square_le a b h = mul-le-mul h h

square-less : (a b : ℕ) → a < b → a * a < b * b
square-less a b h = lt_of_le_of_lt (mul-le-mul_left a (le_of_lt h)) (mul-lt-mul_of_pos_right h (omega arith))

middle-above : (m j k q n : ℕ) → m < 2 ^ 53 → 2 ^ 52 ≤ q → NearRoot n q → q * 2 ^ k < m * 2 ^ j
    → 4 * (n * (2 ^ k * 2 ^ k)) < (m * 2 ^ j + q * 2 ^ k) * (m * 2 ^ j + q * 2 ^ k)
middle-above m j k q n a b r h = go (2 ^ k) (m * 2 ^ j) (pow_pos k) (above-next m j k q a b h)
  where
    up : (w : ℕ) → 0 < w → n * (w * w) ≤ (q * q + q) * (w * w) → 4 * (n * (w * w)) < ((q + 1) * w + q * w) * ((q + 1) * w + q * w)
    up w p l = let z = mul-pos p p in omega arith

    go : (w B : ℕ) → 0 < w → (q + 1) * w ≤ B → 4 * (n * (w * w)) < (B + q * w) * (B + q * w)
    go w B p l = lt_of_lt_of_le (up w p (mul-le-mul_right (w * w) r.1)) (square_le ((q + 1) * w + q * w) (B + q * w) (omega arith))

middle-below : (m j k q n : ℕ) → m < 2 ^ 53 → 2 ^ 52 ≤ q → 2 ^ 104 ≤ n → NearRoot n q
    → m * 2 ^ j < q * 2 ^ k → (m * 2 ^ j + q * 2 ^ k) * (m * 2 ^ j + q * 2 ^ k) < 4 * (n * (2 ^ k * 2 ^ k))
middle-below m j k q n a b c r h = by (eq-or-lt_of_le b)
  where
    -- q is the least of its binade, and the root is at least q
    least : (w B : ℕ) → B < 2 ^ 52 * w → 2 ^ 104 * (w * w) ≤ n * (w * w) → (B + 2 ^ 52 * w) * (B + 2 ^ 52 * w) < 4 * (n * (w * w))
    least w B l g = lt_of_lt_of_le (square-less (B + 2 ^ 52 * w) (2 ^ 52 * w + 2 ^ 52 * w) (omega arith)) (omega arith)

    down : (w Q : ℕ) → 0 < w → suc Q * suc Q * (w * w) + w * w ≤ (n + suc Q) * (w * w) → (Q * w + suc Q * w) * (Q * w + suc Q * w) < 4 * (n * (w * w))
    down w Q p l = let z = mul-pos p p in omega arith

    one_more : (Q w : ℕ) → suc Q * suc Q < n + suc Q → suc Q * suc Q * (w * w) + w * w ≤ (n + suc Q) * (w * w)
    one_more Q w h = let z = mul-le-mul_right (w * w) h in omega arith

    next : (q w B : ℕ) → 0 < w → 2 ^ 52 < q → q * q < n + q → B ≤ (q - 1) * w → (B + q * w) * (B + q * w) < 4 * (n * (w * w))
    next zero w B p l r g = absurd (not-le_of_lt l (lit≤ tt))
    next (suc Q) w B p l r g = lt_of_le_of_lt (square_le (B + suc Q * w) (Q * w + suc Q * w) (fill (suc Q - 1) (omega arith) g)) (down w Q p (one_more Q w r))
      where
        fill : (P : ℕ) → P ≡ Q → B ≤ P * w → B + suc Q * w ≤ Q * w + suc Q * w
        fill P e g = let z = subst (λ (x : ℕ). B ≤ x * w) e g in omega arith

    by : (2 ^ 52 ≡ q) ⊎ (2 ^ 52 < q) → (m * 2 ^ j + q * 2 ^ k) * (m * 2 ^ j + q * 2 ^ k) < 4 * (n * (2 ^ k * 2 ^ k))
    by (inl e) =
        subst (λ (x : ℕ). (m * 2 ^ j + x * 2 ^ k) * (m * 2 ^ j + x * 2 ^ k) < 4 * (n * (2 ^ k * 2 ^ k))) e
        (least (2 ^ k) (m * 2 ^ j) (subst (λ (x : ℕ). m * 2 ^ j < x * 2 ^ k) (sym e) h) (mul-le-mul_right (2 ^ k * 2 ^ k) c))
    by (inr l) = next q (2 ^ k) (m * 2 ^ j) (pow_pos k) l r.0 (below_next m j k q a l h)

-- ---- in fractions
four-frac : (A L : ℕ) (P : 0 < L) → qn 4 *q sg false A L P ≡ sg false (4 * (A * L)) (L * L) (mul-pos P P)
four-frac A L P = *q-mk (whole 4 0) (sg_f false A L P) ∙ sound (omega arith)

both-frac : (a b L : ℕ) (P : 0 < L)
    → (sg false a L P +q sg false b L P) *q (sg false a L P +q sg false b L P) ≡ sg false ((a + b) * (a + b)) (L * L) (mul-pos P P)
both-frac a b L P = ap (λ z. z *q z) (sym (plus a b L P)) ∙ sym (times false false (a + b) (a + b) L L P P)

pub positive_of : (x : Float) → T (finite x) → qn 0 <q val x → T (positive x)
unfolding leq
positive_of nan p t = absurd p
positive_of (inf s) p t = absurd p
positive_of (fin true m e) p t = absurd (omega (arith, nleb→lt (0 * 1 + 0 * down e) (0 * down e + m * up e * 1) t))
positive_of (fin false m e) p t = lt→ltb 0 m (first m (nleb→lt (m * up e * 1 + 0 * down e) (0 * down e + 0 * 1) t))
  where
    first : (m : ℕ) → 0 * down e + 0 * 1 < m * up e * 1 + 0 * down e → 0 < m
    first zero h = absurd (lt_irrefl 0 (omega (arith, zero-mul (up e))))
    first (suc m) h = zero-lt-suc m

module _ (x : Float) (f : T (fits binary64 x)) (p : T (finite x)) (above : qn 0 <q val x) where
  own : RootUnits x
  own = root-units x f (positive_of x p above)

  x-is : val x ≡ frac own.A
  x-is = (has→val x false own.A (2 ^ 1074) L own.value).1

  root-has : T (finite (sqrt binary64 x)) × (val (sqrt binary64 x) ≡ frac (own.q * 2 ^ own.k))
  root-has = has→val (sqrt binary64 x) false (own.q * 2 ^ own.k) (2 ^ 1074) L own.root

  pub root-finite : T (finite (sqrt binary64 x))
  root-finite = root-has.0

  pub root-fits : T (fits binary64 (sqrt binary64 x))
  root-fits = own.root-fits

  pub root-above-zero : qn 0 <q val (sqrt binary64 x)
  root-above-zero =
      let B = own.q * 2 ^ own.k in
      subst₂ ◌<q◌ (zero-both false 0 (2 ^ 1074) 1 L (zero-lt-suc 0) refl) (sym root-has.1)
      (less-frac 0 B (2 ^ 1074) L (mul-pos (lt_of_lt_of_le (pow_pos 52) own.q-low) (pow_pos own.k)))

  four-x : qn 4 *q val x ≡ sg false (4 * (own.n * (2 ^ own.k * 2 ^ own.k))) (2 ^ 1074 * 2 ^ 1074) (mul-pos L L)
  four-x = ap (λ z. qn 4 *q z) x-is ∙ four-frac own.A (2 ^ 1074) L ∙ ap (λ (n : ℕ). sg false (4 * n) (2 ^ 1074 * 2 ^ 1074) (mul-pos L L)) own.square

  module _ (z : Float) (g : T (fits binary64 z)) (q : T (finite z)) (h : 0≤ (val z)) where
    point : Grid z
    point = grid z g q h

    middle : (val z +q val (sqrt binary64 x)) *q (val z +q val (sqrt binary64 x))
        ≡ sg false ((point.m * 2 ^ point.j + own.q * 2 ^ own.k) * (point.m * 2 ^ point.j + own.q * 2 ^ own.k)) (2 ^ 1074 * 2 ^ 1074) (mul-pos L L)
    middle = ap₂ (λ a b. (a +q b) *q (a +q b)) point.is root-has.1 ∙ both-frac (point.m * 2 ^ point.j) (own.q * 2 ^ own.k) (2 ^ 1074) L

    -- a representable z below the computed root r: the root of x is above the middle of z and r
    pub below-nearer : val z <q val (sqrt binary64 x) → (val z +q val (sqrt binary64 x)) *q (val z +q val (sqrt binary64 x)) <q qn 4 *q val x
    below-nearer t =
        let l = frac-less (point.m * 2 ^ point.j) (own.q * 2 ^ own.k) (2 ^ 1074) L (subst₂ ◌<q◌ point.is root-has.1 t) in
        subst₂ ◌<q◌ (sym middle) (sym four-x) (less-frac _ _ (2 ^ 1074 * 2 ^ 1074) (mul-pos L L)
        (middle-below point.m point.j own.k own.q own.n point.digits own.q-low own.n-low own.near l))

    -- a representable z above it: the root of x is below the middle of z and r
    pub above-nearer : val (sqrt binary64 x) <q val z → qn 4 *q val x <q (val z +q val (sqrt binary64 x)) *q (val z +q val (sqrt binary64 x))
    above-nearer t =
        let l = frac-less (own.q * 2 ^ own.k) (point.m * 2 ^ point.j) (2 ^ 1074) L (subst₂ ◌<q◌ root-has.1 point.is t) in
        subst₂ ◌<q◌ (sym four-x) (sym middle) (less-frac _ _ (2 ^ 1074 * 2 ^ 1074) (mul-pos L L)
        (middle-above point.m point.j own.k own.q own.n point.digits own.q-low own.near l))
