-- Refusal 6's test of a rotation: where `is_normalized_of q` says yes, the exact sum N of the squares is within 2 ^ -42 of 1, whatever doubles q holds.
use Rattle.std.specs.Prelude.{◌≡◌, refl, List, [], ◌∷◌, Bool, true, false, not, cond, ◌&&◌, ℕ, ◌+◌, ◌*◌, ◌^◌, T, leb}
use Rattle.std.proofs.Common.{sym, subst, leb→le}
use Rattle.std.specs.Bool.{beq}
use mathlib.Core.Quot
use lib.Ieee.{Float, nan, inf, fin, binary64, up, down, round, neg, add, sub, mul, le}
use Rattle.std.specs.Float.Ieee.Exact.{HasValue}
use Rattle.std.specs.Float.Ieee.Fits.{round_is, down_pos}
use Rattle.std.specs.Float.Ieee.Order.{drop, kept}
use Rattle.std.specs.Float.Ieee.Scale.{finite, grid}
use Rattle.exact.specs.Rat.{ℚ, qn, leq, ◌+q◌, ◌-q◌, ◌*q◌, negq}
use Rattle.exact.specs.Abs.{U, iv, 0≤, Abs, abs-eq, abs-mono, abs-add, abs-sub}
use Rattle.exact.specs.RingQ.{Rx, rv, ◌⊕◌, ◌⊖◌, ◌⊗◌, same_q, ring_q}
use Rattle.exact.specs.Cert.{nat, Nns, comb, den, by-nn, hyp, ◌⊞◌}
use Rattle.exact.specs.Val.{val, round-has, add_rounds, mul-rounds}
use Rattle.exact.specs.Sign.{sg-nn}
use Rattle.exact.specs.Relative.{unsigned}
use Rattle.exact.specs.Check.{Fx, fv, ◌+f◌, ◌*f◌, err, chk, sound}
use Rattle.exact.specs.Given.{given}
use Rattle.arith.specs.Real.{is_finite, abs_of, ratio}
use Rattle.vectors.specs.declared.quaternion.Quat.{Quat}
use Rattle.vectors.specs.Quaternion.{quat_finite_of, is_normalized_of}
use Rattle.vectors.specs.Laws.Tests.{finite-of, both, abs-within}
use Rattle.vectors.specs.Laws.Back.{under, rounds-back, sub_back}
use Rattle.vectors.specs.Laws.Length.{root-abs}
use Rattle.vectors.specs.Laws.Fractions.{norm}

-- ---- a finite result has finite arguments
pub add-finite : (x y : Float) → T (finite (add binary64 x y)) → T (finite x) × T (finite y)
unfolding add
add-finite nan y t = absurd t
add-finite (inf s) nan t = absurd t
add-finite (inf s) (inf r) t = absurd (go (beq s r) t)
  where
    go : (b : Bool) → T (finite (cond b (inf s) nan)) → ⊥
    go true t = t
    go false t = t
add-finite (inf s) (fin r n d) t = absurd t
add-finite (fin s m e) nan t = absurd t
add-finite (fin s m e) (inf r) t = absurd t
add-finite (fin s m e) (fin r n d) t = (tt, tt)

pub sub-finite : (x y : Float) → T (finite (sub binary64 x y)) → T (finite x)
unfolding sub
sub-finite x y t = (add-finite x (neg y) t).0

-- ---- sums of squares have the sign +
plus-sign : (x : Float) (a c : ℕ) → HasValue x false a c → T (unsigned x)
plus-sign nan a c h = absurd h
plus-sign (inf s) a c h = absurd h
plus-sign (fin s m e) a c h = subst (λ b. T (not b)) (sym h.0) tt

round-unsigned : (a c : ℕ) → T (finite (round binary64 false a c)) → T (unsigned (round binary64 false a c))
round-unsigned a c t =
    plus-sign (round binary64 false a c) (grid binary64 a c) (2 ^ 1074) (round-has false a c
    (under false (kept 53 (a * 2 ^ 1074) c) (drop 53 (a * 2 ^ 1074) c) (subst (λ (z : Float). T (finite z)) (round_is binary64 false a c) t)))

square-unsigned : (x : Float) → T (finite x) → T (finite (mul binary64 x x)) → T (unsigned (mul binary64 x x))
unfolding mul
square-unsigned nan p t = absurd p
square-unsigned (inf s) p t = absurd p
square-unsigned (fin false m e) p t = round-unsigned (m * up e * (m * up e)) (down e * down e) t
square-unsigned (fin true m e) p t = round-unsigned (m * up e * (m * up e)) (down e * down e) t

add-unsigned : (x y : Float) → T (unsigned x) → T (unsigned y) → T (finite (add binary64 x y)) → T (unsigned (add binary64 x y))
unfolding add lib.Ieee.sum
add-unsigned nan y p q t = absurd p
add-unsigned (inf s) y p q t = absurd p
add-unsigned (fin true m e) y p q t = absurd p
add-unsigned (fin false m e) nan p q t = absurd q
add-unsigned (fin false m e) (inf r) p q t = absurd q
add-unsigned (fin false m e) (fin true n d) p q t = absurd q
add-unsigned (fin false m e) (fin false n d) p q t = round-unsigned (m * up e * down d + n * up d * down e) (down e * down d) t

unsigned-nn : (x : Float) → T (unsigned x) → 0≤ (val x)
unsigned-nn nan p = absurd p
unsigned-nn (inf s) p = absurd p
unsigned-nn (fin false m e) p = sg-nn (m * up e) (down e) (down_pos e)
unsigned-nn (fin true m e) p = absurd p

-- ---- from a rounded sum of squares back to the squares
square-back : (x : Float) (M : ℕ) → T (finite x) → T (finite (mul binary64 x x)) → Abs (val (mul binary64 x x)) M → Abs (val x *q val x) (2 * M + 1)
square-back x M p t h = rounds-back (mul binary64 x x) (val x *q val x) (mul-rounds x x p p) M t h

shares : (a b : ℚ) (M : ℕ) → 0≤ a → 0≤ b → Abs (a +q b) M → Abs a M × Abs b M
unfolding same_q den comb
shares a b M p q h =
    let ρ = a ∷ b ∷ iv M ∷ [] in
    let H : List Rx = rv 0 ∷ rv 1 ∷ (rv 2 ⊖ (rv 0 ⊕ rv 1)) ∷ [] in
    let k : Nns ρ H = (p, (q, (h.0, tt))) in (
      (by-nn ρ [] tt H k [] (hyp 1 ⊞ hyp 2) (rv 2 ⊖ rv 0) tt, by-nn ρ [] tt H k [] (hyp 0 ⊞ hyp 0 ⊞ hyp 1 ⊞ hyp 2) (rv 2 ⊕ rv 0) tt),
      (by-nn ρ [] tt H k [] (hyp 0 ⊞ hyp 2) (rv 2 ⊖ rv 1) tt, by-nn ρ [] tt H k [] (hyp 0 ⊞ hyp 1 ⊞ hyp 1 ⊞ hyp 2) (rv 2 ⊕ rv 1) tt),
    )

sum_back : (x y : Float) (M : ℕ) → T (unsigned x) → T (unsigned y) → T (finite (add binary64 x y))
    → Abs (val (add binary64 x y)) M → Abs (val x) (2 * M + 1) × Abs (val y) (2 * M + 1)
sum_back x y M p q t h =
    let f = add-finite x y t in
    shares (val x) (val y) (2 * M + 1) (unsigned-nn x p) (unsigned-nn y q)
    (rounds-back (add binary64 x y) (val x +q val y) (add_rounds x y f.0 f.1) M t h)

-- ---- the four squares, one after the other
abbrev B₀ : ℕ
B₀ = 2 ^ 256 + 2 ^ 214

abbrev B₁ : ℕ
B₁ = 2 * B₀ + 1

abbrev B₂ : ℕ
B₂ = 2 * B₁ + 1

abbrev B₃ : ℕ
B₃ = 2 * B₂ + 1

-- x² ≤ M and M ≤ 25: |x| ≤ 5
five : (x : ℚ) (M : ℕ) → T (leq (qn 0) (iv (5 * 2 ^ 256) *q iv (5 * 2 ^ 256) -q iv M)) → Abs (x *q x) M → Abs x (5 * 2 ^ 256)
unfolding same_q den comb
five x M t h =
    root-abs x (5 * 2 ^ 256) tt (by-nn (x ∷ iv M ∷ iv (5 * 2 ^ 256) ∷ []) [] tt ((rv 2 ⊗ rv 2 ⊖ rv 1) ∷ (rv 1 ⊖ rv 0 ⊗ rv 0) ∷ [])
    (t, (h.0, tt)) [] (hyp 0 ⊞ hyp 1) (rv 2 ⊗ rv 2 ⊖ rv 0 ⊗ rv 0) tt)

one-val : val (ratio 1 1) ≡ qn 1
unfolding round
one-val = Quot.sound refl

one-finite : T (finite (ratio 1 1))
unfolding round
one-finite = tt

limit-val : val (ratio 1 (2 ^ 44)) ≡ iv (2 ^ 212)
unfolding round iv U
limit-val = Quot.sound refl

limit-finite : T (finite (ratio 1 (2 ^ 44)))
unfolding round
limit-finite = tt

squares_e : Fx
squares_e = fv 0 *f fv 0 +f fv 1 *f fv 1 +f fv 2 *f fv 2 +f fv 3 *f fv 3

squaresβ : List (ℕ × ℕ)
squaresβ = (5 * 2 ^ 256, 0) ∷ (5 * 2 ^ 256, 0) ∷ (5 * 2 ^ 256, 0) ∷ (5 * 2 ^ 256, 0) ∷ []

pub record UnitQuat (q : Quat) : Type 0 where
  pub fine-x : T (finite q.x)
  pub fine-y : T (finite q.y)
  pub fine-z : T (finite q.z)
  pub fine-w : T (finite q.w)
  pub size : Abs (norm (val q.x) (val q.y) (val q.z) (val q.w) -q qn 1) (2 ^ 214)

around : (s n : ℚ) (a b c : ℕ) → Abs (s -q qn 1) a → Abs (s -q n) b → T (leb (a + b) c) → Abs (n -q qn 1) c
unfolding same_q
around s n a b c h k t =
    abs-mono (n -q qn 1) (a + b) c (leb→le (a + b) c t) (abs-eq ((s -q qn 1) -q (s -q n)) (n -q qn 1) (a + b)
    (ring_q (s ∷ n ∷ []) ((rv 0 ⊖ nat 1) ⊖ (rv 0 ⊖ rv 1)) (rv 1 ⊖ nat 1) tt) (abs-sub (s -q qn 1) (s -q n) a b h k))

near-one : (s : ℚ) (a : ℕ) → Abs (s -q qn 1) a → T (leb (a + 2 ^ 256) B₀) → Abs s B₀
unfolding same_q U iv leq ◌+q◌ negq
near-one s a h t =
    let o : Abs (qn 1) (2 ^ 256) = (tt, tt) in
    abs-mono s (a + 2 ^ 256) B₀ (leb→le (a + 2 ^ 256) B₀ t)
    (abs-eq ((s -q qn 1) +q qn 1) s (a + 2 ^ 256) (ring_q (s ∷ []) ((rv 0 ⊖ nat 1) ⊕ nat 1) (rv 0) tt) (abs-add (s -q qn 1) (qn 1) a (2 ^ 256) h o))

pub unit-quat : (q : Quat) → T (is_normalized_of q) → UnitQuat q
unfolding is_normalized_of squares_e squaresβ chk leq ◌+q◌ ◌*q◌ iv U negq
unit-quat q t =
    let x = q.x in
    let y = q.y in
    let z = q.z in
    let w = q.w in
    let S₁ = mul binary64 x x in
    let S₂ = add binary64 S₁ (mul binary64 y y) in
    let S₃ = add binary64 S₂ (mul binary64 z z) in
    let S₄ = add binary64 S₃ (mul binary64 w w) in
    let D = sub binary64 S₄ (ratio 1 1) in
    let a = both (quat_finite_of q) (le (abs_of D) (ratio 1 (2 ^ 44))) t in
    let g = both (is_finite x && is_finite y && is_finite z) (is_finite w) a.0 in
    let g₂ = both (is_finite x && is_finite y) (is_finite z) g.0 in
    let g₃ = both (is_finite x) (is_finite y) g₂.0 in
    let fx = finite-of x g₃.0 in
    let fy = finite-of y g₃.1 in
    let fz = finite-of z g₂.1 in
    let fw = finite-of w g.1 in
    let d = abs-within D (ratio 1 (2 ^ 44)) (2 ^ 212) limit-finite limit-val a.1 in
    let f₄ = sub-finite S₄ (ratio 1 1) d.0 in
    let near : Abs (val S₄ -q qn 1) (2 * 2 ^ 212 + 1) =
    subst (λ v. Abs (val S₄ -q v) (2 * 2 ^ 212 + 1)) one-val (sub_back S₄ (ratio 1 1) (2 ^ 212) f₄ one-finite d.0 d.1) in
    let f₃ = add-finite S₃ (mul binary64 w w) f₄ in
    let f₂ = add-finite S₂ (mul binary64 z z) f₃.0 in
    let f₁ = add-finite S₁ (mul binary64 y y) f₂.0 in
    let u₁ = square-unsigned x fx f₁.0 in
    let u₂ = add-unsigned S₁ (mul binary64 y y) u₁ (square-unsigned y fy f₁.1) f₂.0 in
    let u₃ = add-unsigned S₂ (mul binary64 z z) u₂ (square-unsigned z fz f₂.1) f₃.0 in
    let b₃ = sum_back S₃ (mul binary64 w w) B₀ u₃ (square-unsigned w fw f₃.1) f₄ (near-one (val S₄) (2 * 2 ^ 212 + 1) near tt) in
    let b₂ = sum_back S₂ (mul binary64 z z) B₁ u₂ (square-unsigned z fz f₂.1) f₃.0 b₃.0 in
    let b₁ = sum_back S₁ (mul binary64 y y) B₂ u₁ (square-unsigned y fy f₁.1) f₂.0 b₂.0 in
    let tw = five (val w) (2 * B₁ + 1) tt (square-back w B₁ fw f₃.1 b₃.1) in
    let tz = five (val z) (2 * B₂ + 1) tt (square-back z B₂ fz f₂.1 b₂.1) in
    let ty = five (val y) (2 * B₃ + 1) tt (square-back y B₃ fy f₁.1 b₁.1) in
    let tx = five (val x) (2 * B₃ + 1) tt (square-back x B₃ fx f₁.0 b₁.0) in
    let M = 5 * 2 ^ 256 in
    let R = sound (x ∷ y ∷ z ∷ w ∷ []) (val x ∷ val y ∷ val z ∷ val w ∷ []) squaresβ (
      given x M (fx, tx),
      (given y M (fy, ty), (given z M (fz, tz), (given w M (fw, tw), tt))),
    ) squares_e ((((tt, tt), (tt, tt)), (tt, tt)), (tt, tt)) tt in
    record {
      fine-x = fx;
      fine-y = fy;
      fine-z = fz;
      fine-w = fw;
      size = around (val S₄) (norm (val x) (val y) (val z) (val w)) (2 * 2 ^ 212 + 1) (err (chk squaresβ squares_e)) (2 ^ 214) near R.2 tt;
    }
