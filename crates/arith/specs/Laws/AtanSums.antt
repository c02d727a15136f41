-- The exact sums as polynomials in x²: sine_sum41 x = x σ(x²), cosine_sum42 x = γ(x²). So a computed test can
-- compare them with what they should be near. How large they are, how fast they grow, and -x.
use Rattle.std.specs.Prelude.{◌≡◌, refl, List, [], ◌∷◌, Bool, true, false, not, ℕ, zero, suc, ◌+◌, T, leb}
use Rattle.std.proofs.Common.{sym, ap, ap₂, ◌∙◌, subst, leb→le}
use Rattle.std.proofs.Math.Numerals.{add-two}
use Rattle.exact.specs.Rat.{ℚ, Fr, mk, qn, ◌+q◌, ◌-q◌, ◌*q◌, negq, neg-zero, *q-zero, +q-zero}
use Rattle.exact.specs.Ring.{var, con, ◌:+◌, ◌:-◌, ◌:*◌, ng, same, ring}
use Rattle.exact.specs.RingQ.{Rx, rat, ◌⊕◌, ◌⊗◌, ev_r}
use Rattle.exact.specs.Cert.{nat}
use Rattle.exact.specs.Abs.{U, iv, iv-nn, 0≤, Abs, mul_up, abs-eq, abs-mono, abs-add, abs-mul}
use Rattle.exact.specs.Val.{sg_f}
use Rattle.exact.specs.Check.{abs_up, abs_up-ok}
use Rattle.arith.specs.Angle.{factorial}
use Rattle.arith.specs.ExactSums.{factorial-pos, power, term, terms, sine_sum41, cosine_sum42}

-- ---- polynomials by their coefficients, the lowest first
unfoldable pub poly : List Fr → ℚ → ℚ
poly [] z = qn 0
poly (c ∷ cs) z = mk c +q z *q poly cs z

unfoldable pub poly_r : List Fr → Rx → Rx
poly_r [] e = nat 0
poly_r (c ∷ cs) e = rat c ⊕ e ⊗ poly_r cs e

pub poly_r-ok : (ρ : List ℚ) (cs : List Fr) (e : Rx) → ev_r ρ (poly_r cs e) ≡ poly cs (ev_r ρ e)
unfolding poly poly_r
poly_r-ok ρ [] e = refl
poly_r-ok ρ (c ∷ cs) e = ap (λ z. mk c +q ev_r ρ e *q z) (poly_r-ok ρ cs e)

-- 1/n! - z/(n + 2)! + z²/(n + 4)! .., k terms; s is the first one's sign
unfoldable pub coefs : Bool → ℕ → ℕ → List Fr
unfolding factorial
coefs s zero n = []
coefs s (suc k) n = sg_f s 1 (factorial n) (factorial-pos n) ∷ coefs (not s) k (n + 2)

-- the sums through the powers 41 and 42 over x, in x²
unfoldable pub σ : List Fr
unfolding coefs
σ = coefs false 21 1

unfoldable pub γ : List Fr
unfolding coefs
γ = coefs false 22 0

-- ---- they are the exact sums
minus_minus : (a : ℚ) → negq (negq a) ≡ a
unfolding same
minus_minus a = ring (a ∷ []) (ng (ng (var 0))) (var 0) tt

minus-out : (a z b : ℚ) → negq a +q z *q negq b ≡ negq (a +q z *q b)
unfolding same
minus-out a z b = ring (a ∷ b ∷ z ∷ []) (ng (var 0) :+ var 2 :* ng (var 1)) (ng (var 0 :+ var 2 :* var 1)) tt

opposite : (s : Bool) (k n : ℕ) (z : ℚ) → poly (coefs (not s) k n) z ≡ negq (poly (coefs s k n) z)
unfolding poly coefs negq
opposite s zero n z = refl
opposite true (suc k) n z =
    ap (λ v. mk (sg_f false 1 (factorial n) (factorial-pos n)) +q z *q v) (opposite false k (n + 2) z)
    ∙ minus-out (mk (sg_f true 1 (factorial n) (factorial-pos n))) z (poly (coefs false k (n + 2)) z)
opposite false (suc k) n z =
    ap (λ v. mk (sg_f true 1 (factorial n) (factorial-pos n)) +q z *q v) (opposite true k (n + 2) z)
    ∙ minus-out (mk (sg_f false 1 (factorial n) (factorial-pos n))) z (poly (coefs true k (n + 2)) z)

power-next : (x : ℚ) (n : ℕ) → power x (n + 2) ≡ x *q (x *q power x n)
unfolding power
power-next x n = rw (add-two n)

terms-are : (k n : ℕ) (x : ℚ) → terms k x n ≡ power x n *q poly (coefs false k n) (x *q x)
unfolding terms term poly coefs same
terms-are zero n x = sym (*q-zero (power x n))
terms-are (suc k) n x =
    let a = mk (sg_f false 1 (factorial n) (factorial-pos n)) in
    let b = poly (coefs false k (n + 2)) (x *q x) in
    ap (λ v. power x n *q a -q v) (terms-are k (n + 2) x ∙ ap (λ u. u *q b) (power-next x n)) ∙
    ring ((power x n) ∷ a ∷ x ∷ b ∷ []) (var 0 :* var 1 :- (var 2 :* (var 2 :* var 0)) :* var 3) (var 0 :* (var 1 :+ var 2 :* var 2 :* ng (var 3))) tt
    ∙ ap (λ v. power x n *q (a +q x *q x *q v)) (sym (opposite false k (n + 2) (x *q x)))

pub sine-is : (x : ℚ) → sine_sum41 x ≡ x *q poly σ (x *q x)
unfolding sine_sum41 σ power same
sine-is x = terms-are 21 1 x ∙ ring (x ∷ (poly (coefs false 21 1) (x *q x)) ∷ []) (var 0 :* con 1 :* var 1) (var 0 :* var 1) tt

pub cosine-is : (x : ℚ) → cosine_sum42 x ≡ poly γ (x *q x)
unfolding cosine_sum42 γ power same
cosine-is x = terms-are 22 0 x ∙ ring (poly (coefs false 22 0) (x *q x) ∷ []) (con 1 :* var 0) (var 0) tt

-- as expressions of e
unfoldable pub sine_x : Rx → Rx
unfolding poly_r σ
sine_x e = e ⊗ poly_r σ (e ⊗ e)

unfoldable pub cosine_x : Rx → Rx
unfolding poly_r γ
cosine_x e = poly_r γ (e ⊗ e)

pub sine_x-ok : (ρ : List ℚ) (e : Rx) → ev_r ρ (sine_x e) ≡ sine_sum41 (ev_r ρ e)
unfolding sine_x
sine_x-ok ρ e = ap (λ z. ev_r ρ e *q z) (poly_r-ok ρ σ (e ⊗ e)) ∙ sym (sine-is (ev_r ρ e))

pub cosine_x-ok : (ρ : List ℚ) (e : Rx) → ev_r ρ (cosine_x e) ≡ cosine_sum42 (ev_r ρ e)
unfolding cosine_x
cosine_x-ok ρ e = poly_r-ok ρ γ (e ⊗ e) ∙ sym (cosine-is (ev_r ρ e))

-- ---- at -x
minus-square : (x : ℚ) → negq x *q negq x ≡ x *q x
unfolding same
minus-square x = ring (x ∷ []) (ng (var 0) :* ng (var 0)) (var 0 :* var 0) tt

pub sine-minus : (x : ℚ) → sine_sum41 (negq x) ≡ negq (sine_sum41 x)
unfolding same
sine-minus x = sine-is (negq x) ∙ ap (λ z. negq x *q poly σ z) (minus-square x) ∙
    ring (x ∷ (poly σ (x *q x)) ∷ []) (ng (var 0) :* var 1) (ng (var 0 :* var 1)) tt ∙ ap negq (sym (sine-is x))

pub cosine-minus : (x : ℚ) → cosine_sum42 (negq x) ≡ cosine_sum42 x
cosine-minus x = cosine-is (negq x) ∙ ap (poly γ) (minus-square x) ∙ sym (cosine-is x)

-- ---- size, for |z| ≤ Z
unfoldable pub top_b : ℕ → List Fr → ℕ
unfolding abs_up U
top_b Z [] = 0
top_b Z (c ∷ cs) = abs_up c + mul_up Z (top_b Z cs)

zero-abs : Abs (qn 0) 0
unfolding same
zero-abs = (subst 0≤ (ring (iv 0 ∷ []) (var 0) (var 0 :- con 0) tt) (iv-nn 0), subst 0≤ (ring (iv 0 ∷ []) (var 0) (var 0 :+ con 0) tt) (iv-nn 0))

pub poly-top : (z : ℚ) (Z : ℕ) → Abs z Z → (cs : List Fr) → Abs (poly cs z) (top_b Z cs)
unfolding poly top_b
poly-top z Z h [] = zero-abs
poly-top z Z h (c ∷ cs) =
    abs-add (mk c) (z *q poly cs z) (abs_up c) (mul_up Z (top_b Z cs)) (abs_up-ok c) (abs-mul z (poly cs z) Z (top_b Z cs) h (poly-top z Z h cs))

-- the cosine's sum, for |x| ≤ X, by a test
unfoldable pub cosine_fits : ℕ → ℕ → Bool
unfolding top_b γ U
cosine_fits X N = leb (top_b (mul_up X X) γ) N

pub cosine-top : (X N : ℕ) → T (cosine_fits X N) → (x : ℚ) → Abs x X → Abs (cosine_sum42 x) N
unfolding cosine_fits
cosine-top X N t x h =
    let Z = mul_up X X in
    abs-eq (poly γ (x *q x)) (cosine_sum42 x) N (sym (cosine-is x))
    (abs-mono (poly γ (x *q x)) (top_b Z γ) N (leb→le (top_b Z γ) N t) (poly-top (x *q x) Z (abs-mul x x X X h h) γ))

-- ---- growth: from y to z, |z - y| ≤ d
unfoldable pub grow_b : ℕ → ℕ → List Fr → ℕ
unfolding top_b
grow_b d Z [] = 0
grow_b d Z (c ∷ cs) = mul_up d (top_b Z cs) + mul_up Z (grow_b d Z cs)

grown : (c y z p r : ℚ) → (z -q y) *q p +q y *q (p -q r) ≡ (c +q z *q p) -q (c +q y *q r)
unfolding same
grown c y z p r =
    ring (c ∷ y ∷ z ∷ p ∷ r ∷ []) ((var 2 :- var 1) :* var 3 :+ var 1 :* (var 3 :- var 4)) (var 0 :+ var 2 :* var 3 :- (var 0 :+ var 1 :* var 4)) tt

pub poly-grows : (z y : ℚ) (d Z : ℕ) → Abs z Z → Abs y Z → Abs (z -q y) d → (cs : List Fr) → Abs (poly cs z -q poly cs y) (grow_b d Z cs)
unfolding poly grow_b
poly-grows z y d Z h k g [] = abs-eq (qn 0) (qn 0 -q qn 0) 0 (sym (+q-zero (qn 0)) ∙ ap (λ w. qn 0 +q w) (sym neg-zero)) zero-abs
poly-grows z y d Z h k g (c ∷ cs) =
    abs-eq ((z -q y) *q poly cs z +q y *q (poly cs z -q poly cs y)) (poly (c ∷ cs) z -q poly (c ∷ cs) y)
    (grow_b d Z (c ∷ cs)) (grown (mk c) y z (poly cs z) (poly cs y))
    (abs-add ((z -q y) *q poly cs z) (y *q (poly cs z -q poly cs y)) (mul_up d (top_b Z cs)) (mul_up Z (grow_b d Z cs)) (abs-mul (z -q y)
    (poly cs z) d (top_b Z cs) g (poly-top z Z h cs)) (abs-mul y (poly cs z -q poly cs y) Z (grow_b d Z cs) k (poly-grows z y d Z h k g cs)))

square-off : (x y : ℚ) → (x -q y) *q (x +q y) ≡ x *q x -q y *q y
unfolding same
square-off x y = ring (x ∷ y ∷ []) ((var 0 :- var 1) :* (var 0 :+ var 1)) (var 0 :* var 0 :- var 1 :* var 1) tt

squares : (x y : ℚ) (d X : ℕ) → Abs x X → Abs y X → Abs (x -q y) d → Abs (x *q x -q y *q y) (mul_up d (X + X))
squares x y d X h k g =
    abs-eq ((x -q y) *q (x +q y)) (x *q x -q y *q y) (mul_up d (X + X)) (square-off x y) (abs-mul (x -q y) (x +q y) d (X + X) g (abs-add x y X X h k))

-- the sums at x and at y, both at most X, by a test
unfoldable pub sine_grows : ℕ → ℕ → ℕ → Bool
unfolding top_b grow_b σ U
sine_grows d X N = leb (mul_up d (top_b (mul_up X X) σ) + mul_up X (grow_b (mul_up d (X + X)) (mul_up X X) σ)) N

unfoldable pub cosine_grows : ℕ → ℕ → ℕ → Bool
unfolding grow_b γ U
cosine_grows d X N = leb (grow_b (mul_up d (X + X)) (mul_up X X) γ) N

sine-off : (x y p r : ℚ) → (x -q y) *q p +q y *q (p -q r) ≡ x *q p -q y *q r
unfolding same
sine-off x y p r = ring (x ∷ y ∷ p ∷ r ∷ []) ((var 0 :- var 1) :* var 2 :+ var 1 :* (var 2 :- var 3)) (var 0 :* var 2 :- var 1 :* var 3) tt

pub sine-grows : (d X N : ℕ) → T (sine_grows d X N) → (x y : ℚ) → Abs x X → Abs y X → Abs (x -q y) d → Abs (sine_sum41 x -q sine_sum41 y) N
unfolding sine_grows
sine-grows d X N t x y h k g =
    let Z = mul_up X X in let B = mul_up d (top_b Z σ) + mul_up X (grow_b (mul_up d (X + X)) Z σ) in
    let hh = abs-mul x x X X h h in let kk = abs-mul y y X X k k in
    abs-mono (sine_sum41 x -q sine_sum41 y) B N (leb→le B N t)
    (abs-eq ((x -q y) *q poly σ (x *q x) +q y *q (poly σ (x *q x) -q poly σ (y *q y))) (sine_sum41 x -q sine_sum41 y) B
    (sine-off x y (poly σ (x *q x)) (poly σ (y *q y)) ∙ ap₂ ◌-q◌ (sym (sine-is x)) (sym (sine-is y)))
    (abs-add ((x -q y) *q poly σ (x *q x)) (y *q (poly σ (x *q x) -q poly σ (y *q y))) (mul_up d (top_b Z σ))
    (mul_up X (grow_b (mul_up d (X + X)) Z σ)) (abs-mul (x -q y) (poly σ (x *q x)) d (top_b Z σ) g (poly-top (x *q x) Z hh σ))
    (abs-mul y (poly σ (x *q x) -q poly σ (y *q y)) X (grow_b (mul_up d (X + X)) Z σ) k
    (poly-grows (x *q x) (y *q y) (mul_up d (X + X)) Z hh kk (squares x y d X h k g) σ))))

pub cosine-grows : (d X N : ℕ) → T (cosine_grows d X N) → (x y : ℚ) → Abs x X → Abs y X → Abs (x -q y) d → Abs (cosine_sum42 x -q cosine_sum42 y) N
unfolding cosine_grows
cosine-grows d X N t x y h k g =
    let Z = mul_up X X in let B = grow_b (mul_up d (X + X)) Z γ in
    abs-mono (cosine_sum42 x -q cosine_sum42 y) B N (leb→le B N t)
    (abs-eq (poly γ (x *q x) -q poly γ (y *q y)) (cosine_sum42 x -q cosine_sum42 y) B (ap₂ ◌-q◌ (sym (cosine-is x)) (sym (cosine-is y)))
    (poly-grows (x *q x) (y *q y) (mul_up d (X + X)) Z (abs-mul x x X X h h) (abs-mul y y X X k k) (squares x y d X h k g) γ))
