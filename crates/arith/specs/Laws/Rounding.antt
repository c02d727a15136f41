-- Laws of `Rattle.std.specs.Float.Ieee`'s `round` and `mul`, at any format: a value that the format holds is told by its sign and its fraction
-- (`value-unique`) and is its own rounding (`round-self`); the sign goes through (`round-neg`), so that a sum with a
-- negated factor is a difference (`add-neg-mul`); a product of fractions (`mul-values`).
use Rattle.std.specs.Prelude.{◌≡◌, Bool, true, false, not, ◌&&◌, cond, ℤ, pos, negsuc, T, leb, ltb, eqb, Float}
use Rattle.std.proofs.Math.Path.{refl}
use Rattle.std.proofs.Common.{sym, ap, ◌∙◌, subst, lt_of_not-le, not-le_of_lt, le_of_suc-le-suc, zero-mul, mul-one, mul_comm, mul_assoc, mul_right_comm}
use Rattle.std.proofs.Common.{mul-pos, mul-lt-mul_of_pos_right, lt_of_mul-lt-mul_right, arith, leb→le, ltb→lt, pow-add, pow_pos}
use Prim.Native.Nat.{ℕ, zero, suc, ◌+◌, ◌-◌, ◌*◌, ◌/◌, ◌%◌, ◌^◌, ◌≤◌, ◌<◌, compare}
use Rattle.std.proofs.Math.Nat.{mul-mul-mul_comm}
use Rattle.std.proofs.Math.Pow.{pow-lt}
use Rattle.std.specs.Float.{nan, inf, fin, Format}
use Rattle.std.specs.Float.Ieee.{prec, emax, low, hid, top, unlike, up, down, size, nearest, odd, units, round, neg, add, sub, mul, fits, of_bits, to_bits}
use Rattle.std.specs.Float.Ieee.Fits.{round_is, round-fits, down_pos, and_l, and_r}
use Rattle.std.specs.Float.Ieee.Exact.{HasValue, round_exact}
use Rattle.std.specs.Float.Ieee.Scale.{round_same}
use Rattle.std.specs.Float.Ieee.Nearest.{div_same}
use Rattle.std.specs.Float.Ieee.Bits.{of_bits-to_bits}

-- ---- the bits of a value are told by its sign and its fraction
-- those of n units of the format's smallest value
abbrev pattern : Format → Bool → ℕ → ℕ
pattern f s n = cond s (top f) 0 + (size n - prec f) * hid f + n / 2 ^ (size n - prec f)

to_bits-value : (f : Format) (x : Float) (s : Bool) (a c : ℕ) → 0 < c → HasValue x s a c
    → to_bits f x ≡ pattern f s (a * 2 ^ low f / c)
unfolding to_bits
to_bits-value f nan s a c C v = absurd v
to_bits-value f (inf t) s a c C v = absurd v
to_bits-value f (fin t m e) s a c C v =
    let l = 2 ^ low f in
    ap (λ (b : Bool). pattern f b (m * up e * l / down e)) v.0
    ∙ ap (pattern f s)
    (div_same (m * up e * l) (down e) (a * l) c (down_pos e) C
    (mul_right_comm (m * up e) l c ∙ ap (λ (z : ℕ). z * l) v.1 ∙ mul_right_comm a (down e) l))

pub value-unique : (f : Format) (x y : Float) (s : Bool) (a c : ℕ) → 0 < c → T (fits f x) → T (fits f y)
    → HasValue x s a c → HasValue y s a c → x ≡ y
value-unique f x y s a c C p q v w =
    sym (of_bits-to_bits f x p)
    ∙ ap (of_bits f) (to_bits-value f x s a c C v ∙ sym (to_bits-value f y s a c C w))
    ∙ of_bits-to_bits f y q

-- ---- a value that the format holds is its own rounding
exponent-le : (i j : ℕ) → 2 ^ i ≤ 2 ^ j → i ≤ j
exponent-le i j h = le_of_suc-le-suc (lt_of_not-le (λ (g : suc j ≤ i). not-le_of_lt (pow-lt g) h))

-- 2 ^ e is 2 ^ j units
unit : (l : ℕ) (e : ℤ) → down e ≤ 2 ^ l → (j : ℕ) × (up e * 2 ^ l ≡ 2 ^ j * down e)
unit l (pos k) h = (k + l, sym (pow-add 2 k l) ∙ sym (mul-one (2 ^ (k + l))))
unit l (negsuc k) h =
    let j = l - suc k in
    (j, one-times (2 ^ l) ∙ ap (λ (x : ℕ). 2 ^ x) (back l (suc k) (exponent-le (suc k) l h)) ∙ pow-add 2 j (suc k))
  where
    one-times : (x : ℕ) → 1 * x ≡ x
    one-times x = omega arith

    back : (l k : ℕ) → k ≤ l → l ≡ l - k + k
    back l k h = omega arith

module _ (f : Format) (s : Bool) (m : ℕ) (e : ℤ) where
  exact : m < 2 ^ prec f → down e ≤ 2 ^ low f → m * up e < 2 ^ suc (emax f) * down e
      → HasValue (round f s (m * up e) (down e)) s (m * up e) (down e)
  exact small fine below =
      let l = low f in let over = 2 ^ suc (emax f) in let u = unit l e fine in let j = u.0 in
      let same : m * up e * 2 ^ l ≡ m * 2 ^ j * down e =
      mul_assoc m (up e) (2 ^ l) ∙ ap (λ (x : ℕ). m * x) u.1 ∙ sym (mul_assoc m (2 ^ j) (down e)) in
      let top : over * down e * 2 ^ l ≡ 2 ^ (l + suc (emax f)) * down e =
      mul_right_comm over (down e) (2 ^ l)
      ∙ ap (λ (x : ℕ). x * down e) (mul_comm over (2 ^ l) ∙ sym (pow-add 2 l (suc (emax f)))) in
      let reach : m * 2 ^ j * down e < 2 ^ (l + suc (emax f)) * down e =
      subst (λ (x : ℕ). x < 2 ^ (l + suc (emax f)) * down e) same
      (subst (λ (x : ℕ). m * up e * 2 ^ l < x) top (mul-lt-mul_of_pos_right below (pow_pos l))) in
      round_exact f s (m * up e) (down e) m j (down_pos e) small (lt_of_mul-lt-mul_right (down e) reach) same

-- what `fits` says of an m that is not 0
pub held : (f : Format) (s : Bool) (m : ℕ) (e : ℤ) → T (fits f (fin s (suc m) e))
    → (suc m < 2 ^ prec f) × (down e ≤ 2 ^ low f) × (suc m * up e < 2 ^ suc (emax f) * down e)
unfolding fits
held f s m e t =
    let odd = eqb (suc m % 2) 1 in let few = ltb (suc m) (2 ^ prec f) in
    let fine = leb (down e) (2 ^ low f) in
    let below = ltb (suc m * up e) (2 ^ suc (emax f) * down e) in
    let t' = and_l (odd && few && fine) below t in (
      ltb→lt (suc m) (2 ^ prec f) (and_r odd few (and_l (odd && few) fine t')),
      leb→le (down e) (2 ^ low f) (and_r (odd && few) fine t'),
      ltb→lt (suc m * up e) (2 ^ suc (emax f) * down e) (and_r (odd && few && fine) below t),
    )

-- below 2 ^ (emax + 1)
pub fits_below : (f : Format) (s : Bool) (m : ℕ) (e : ℤ) → T (fits f (fin s m e)) → m * up e < 2 ^ suc (emax f) * down e
fits_below f s zero e t =
    subst (λ (x : ℕ). x < 2 ^ suc (emax f) * down e) (sym (zero-mul (up e))) (mul-pos (pow_pos (suc (emax f))) (down_pos e))
fits_below f s (suc m) e t = (held f s m e t).2

own-round : (f : Format) (s : Bool) (m : ℕ) (e : ℤ) → T (fits f (fin s m e))
    → HasValue (round f s (m * up e) (down e)) s (m * up e) (down e)
own-round f s zero e t =
    round_exact f s (0 * up e) (down e) 0 0 (down_pos e) (pow_pos (prec f))
    (subst (λ (x : ℕ). x < 2 ^ (low f + suc (emax f))) (sym (zero-mul 1)) (pow_pos (low f + suc (emax f))))
    (ap (λ (x : ℕ). x * 2 ^ low f) (zero-mul (up e))
    ∙ zero-mul (2 ^ low f)
    ∙ sym (ap (λ (x : ℕ). x * down e) (zero-mul 1) ∙ zero-mul (down e)))
own-round f s (suc m) e t = let h = held f s m e t in exact f s (suc m) e h.0 h.1 h.2

pub round-self : (f : Format) (s : Bool) (m : ℕ) (e : ℤ) → T (fits f (fin s m e)) → round f s (m * up e) (down e) ≡ fin s m e
round-self f s m e t =
    let r = round f s (m * up e) (down e) in
    value-unique f r (fin s m e) s (m * up e) (down e) (down_pos e) (round-fits f s (m * up e) (down e)) t
    (own-round f s m e t) (refl, refl)

-- ---- the sign
odd-neg : (d : ℕ) (s : Bool) (q k l : ℕ) → odd d (not s) q k l ≡ neg (odd d s q k l)
unfolding odd neg
odd-neg d s zero k l = refl
odd-neg d s (suc q) k l = refl

cond-neg : (b : Bool) (x y : Float) → cond b (neg x) (neg y) ≡ neg (cond b x y)
cond-neg true x y = refl
cond-neg false x y = refl

units-neg : (f : Format) (s : Bool) (q k : ℕ) → units f (not s) q k ≡ neg (units f s q k)
unfolding units
units-neg f s q k =
    let b = ltb (q * 2 ^ k) (2 ^ (low f + suc (emax f))) in
    let o = odd (suc (prec f)) s q k (low f) in
    ap (λ (x : Float). cond b x (inf (not s))) (odd-neg (suc (prec f)) s q k (low f))
    ∙ ap (λ (x : Float). cond b (neg o) x) (inf-neg s)
    ∙ cond-neg b o (inf s)
  where
    inf-neg : (s : Bool) → inf (not s) ≡ neg (inf s)
    inf-neg s = unfold neg in refl

pub neg-neg : (x : Float) → neg (neg x) ≡ x
unfolding neg
neg-neg nan = refl
neg-neg (inf true) = refl
neg-neg (inf false) = refl
neg-neg (fin true m e) = refl
neg-neg (fin false m e) = refl

pub round-neg : (f : Format) (s : Bool) (a c : ℕ) → round f (not s) a c ≡ neg (round f s a c)
round-neg f s a c =
    let n = a * 2 ^ low f in let k = size (n / c) - prec f in let u = c * 2 ^ k in
    round_is f (not s) a c
    ∙ units-neg f s (nearest (n / u) (compare (n % u * 2) u)) k
    ∙ ap neg (sym (round_is f s a c))

pub unlike-neg : (s t : Bool) → unlike (not s) t ≡ not (unlike s t)
unlike-neg true true = refl
unlike-neg true false = refl
unlike-neg false true = refl
unlike-neg false false = refl

mul-neg : (f : Format) (x y : Float) → mul f (neg x) y ≡ neg (mul f x y)
unfolding mul neg
mul-neg f nan y = refl
mul-neg f (inf s) nan = refl
mul-neg f (inf s) (inf t) = ap inf (unlike-neg s t)
mul-neg f (inf s) (fin t n d) = rw unlike-neg (cond-neg (eqb n 0) nan (inf (unlike s t)))
mul-neg f (fin s m e) nan = refl
mul-neg f (fin s m e) (inf t) = rw unlike-neg (cond-neg (eqb m 0) nan (inf (unlike s t)))
mul-neg f (fin s m e) (fin t n d) = rw unlike-neg (round-neg f (unlike s t) (m * up e * (n * up d)) (down e * down d))

-- x - a y is x + (-a) y, bit for bit
pub add-neg-mul : (f : Format) (x a y : Float) → add f x (mul f (neg a) y) ≡ sub f x (mul f a y)
unfolding sub
add-neg-mul f x a y = rw mul-neg

-- ---- a product of fractions, rounded once
pub mul-values : (f : Format) (x y : Float) (s t : Bool) (a c b d : ℕ) → 0 < c → 0 < d
    → HasValue x s a c → HasValue y t b d → mul f x y ≡ round f (unlike s t) (a * b) (c * d)
unfolding mul
mul-values f nan y s t a c b d C D v w = elim v [ ]
mul-values f (inf _) y s t a c b d C D v w = elim v [ ]
mul-values f (fin s' m e) nan s t a c b d C D v w = elim w [ ]
mul-values f (fin s' m e) (inf _) s t a c b d C D v w = elim w [ ]
mul-values f (fin s' m e) (fin t' n g) s t a c b d C D v w =
    let p = m * up e * (n * up g) in let q = down e * down g in
    ap (λ (z : Bool). round f (unlike z t') p q) v.0
    ∙ ap (λ (z : Bool). round f (unlike s z) p q) w.0
    ∙ round_same f (unlike s t) p q (a * b) (c * d) (mul-pos (down_pos e) (down_pos g)) (mul-pos C D)
    (mul-mul-mul_comm (m * up e) (n * up g) c d
    ∙ ap (λ (z : ℕ). z * (n * up g * d)) v.1
    ∙ ap (λ (z : ℕ). a * down e * z) w.1
    ∙ mul-mul-mul_comm a (down e) b (down g))
