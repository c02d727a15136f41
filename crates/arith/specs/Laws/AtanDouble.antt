-- The exact sums at twice an angle, by computed comparison, and the tangent of twice an angle:
-- where S(x) is near q' C(x), and 2 q' + q q'² near q, S(2 x) is near q C(2 x).
use Rattle.std.specs.Prelude.{◌≡◌, List, [], ◌∷◌, Bool, ℕ, ◌+◌, ◌*◌, ◌^◌, T, leb}
use Rattle.std.proofs.Math.Path.{sym, ap₂}
use Rattle.std.proofs.Common.{ap, ◌∙◌, leb→le}
use Rattle.exact.specs.Rat.{ℚ, qn, ◌+q◌, ◌-q◌, ◌*q◌}
use Rattle.exact.specs.Ring.{var, con, ◌:+◌, ◌:-◌, ◌:*◌, same, ring}
use Rattle.exact.specs.RingQ.{Rx, rv, ◌⊕◌, ◌⊖◌, ◌⊗◌, ev_r, same_q, ring_q, bnd_r}
use Rattle.exact.specs.Cert.{nat, bounds, bound}
use Rattle.exact.specs.Abs.{U, Abs, mul_up, abs-eq, abs-mono, abs-add, abs-mul}
use Rattle.arith.specs.ExactSums.{sine_sum41, cosine_sum42}
use Rattle.arith.specs.Laws.AtanTests.{bounded}
use Rattle.arith.specs.Laws.AtanSums.{poly, poly_r, poly_r-ok, σ, γ, sine-is, cosine-is, cosine_fits, cosine-top}

-- for |x| ≤ 9/16
abbrev pub wide : ℕ
wide = 9 * 2 ^ 252

-- with z = x²: S(2 x) = 2 x σ(4 z), and 2 S C = 2 x σ(z) γ(z)
sine_e : Rx
unfolding poly_r σ γ
sine_e = poly_r σ (nat 4 ⊗ rv 0) ⊖ poly_r σ (rv 0) ⊗ poly_r γ (rv 0)

-- C(2 x) = γ(4 z), and C² - S² = γ(z)² - z σ(z)²
cosine_e : Rx
unfolding poly_r σ γ
cosine_e = poly_r γ (nat 4 ⊗ rv 0) ⊖ (poly_r γ (rv 0) ⊗ poly_r γ (rv 0) ⊖ rv 0 ⊗ (poly_r σ (rv 0) ⊗ poly_r σ (rv 0)))

sine-test : (z : ℚ) → T (leb (bnd_r z (mul_up wide wide) sine_e) (2 ^ 176))
unfolding bnd_r sine_e
sine-test z = tt

cosine-test : (z : ℚ) → T (leb (bnd_r z (mul_up wide wide) cosine_e) (2 ^ 177))
unfolding bnd_r cosine_e
cosine-test z = tt

four : (x : ℚ) → (x +q x) *q (x +q x) ≡ qn 4 *q (x *q x)
unfolding same
four x = ring (x ∷ []) ((var 0 :+ var 0) :* (var 0 :+ var 0)) (con 4 :* (var 0 :* var 0)) tt

sine-parts : (x a b c : ℚ) → (x +q x) *q (a -q b *q c) ≡ (x +q x) *q a -q qn 2 *q (x *q b *q c)
unfolding same
sine-parts x a b c =
    ring (x ∷ a ∷ b ∷ c ∷ []) ((var 0 :+ var 0) :* (var 1 :- var 2 :* var 3)) ((var 0 :+ var 0) :* var 1 :- con 2 :* (var 0 :* var 2 :* var 3)) tt

cosine-parts : (x a b c : ℚ) → a -q (c *q c -q x *q x *q (b *q b)) ≡ a -q (c *q c -q x *q b *q (x *q b))
unfolding same
cosine-parts x a b c =
    ring (x ∷ a ∷ b ∷ c ∷ []) (var 1 :- (var 3 :* var 3 :- var 0 :* var 0 :* (var 2 :* var 2)))
    (var 1 :- (var 3 :* var 3 :- var 0 :* var 2 :* (var 0 :* var 2))) tt

-- the expressions at z
sine-ev : (z : ℚ) → ev_r (z ∷ []) sine_e ≡ poly σ (qn 4 *q z) -q poly σ z *q poly γ z
unfolding sine_e
sine-ev z = ap₂ (λ a b. a -q b) (poly_r-ok (z ∷ []) σ (nat 4 ⊗ rv 0)) (ap₂ ◌*q◌ (poly_r-ok (z ∷ []) σ (rv 0)) (poly_r-ok (z ∷ []) γ (rv 0)))

cosine-ev : (z : ℚ) → ev_r (z ∷ []) cosine_e ≡ poly γ (qn 4 *q z) -q (poly γ z *q poly γ z -q z *q (poly σ z *q poly σ z))
unfolding cosine_e
cosine-ev z =
    let a = poly_r-ok (z ∷ []) σ (rv 0) in let b = poly_r-ok (z ∷ []) γ (rv 0) in
    ap₂ (λ a b. a -q b) (poly_r-ok (z ∷ []) γ (nat 4 ⊗ rv 0)) (ap₂ (λ a b. a -q z *q b) (ap₂ ◌*q◌ b b) (ap₂ ◌*q◌ a a))

-- S(2 x) = 2 S C, and C(2 x) = C² - S²
pub sine-double : (x : ℚ) → Abs x wide → Abs (sine_sum41 (x +q x) -q qn 2 *q (sine_sum41 x *q cosine_sum42 x)) (2 ^ 177)
sine-double x h =
    let z = x *q x in let e = ev_r (z ∷ []) sine_e in
    let B = bounded sine_e (mul_up wide wide) (2 ^ 176) z (sine-test z) (abs-mul x x wide wide h h) in
    let M = mul_up (wide + wide) (2 ^ 176) in
    abs-mono (sine_sum41 (x +q x) -q qn 2 *q (sine_sum41 x *q cosine_sum42 x)) M (2 ^ 177) (leb→le M (2 ^ 177) (unfold U in tt))
    (abs-eq ((x +q x) *q e) (sine_sum41 (x +q x) -q qn 2 *q (sine_sum41 x *q cosine_sum42 x)) M
    (ap (λ w. (x +q x) *q w) (sine-ev z) ∙ sine-parts x (poly σ (qn 4 *q z)) (poly σ z) (poly γ z)
    ∙ ap₂ (λ a b. a -q qn 2 *q b) (ap (λ w. (x +q x) *q poly σ w) (sym (four x)) ∙ sym (sine-is (x +q x))) (ap₂ ◌*q◌ (sym (sine-is x)) (sym (cosine-is x))))
    (abs-mul (x +q x) e (wide + wide) (2 ^ 176) (abs-add x x wide wide h h) B))

pub cosine-double : (x : ℚ) → Abs x wide → Abs (cosine_sum42 (x +q x) -q (cosine_sum42 x *q cosine_sum42 x -q sine_sum41 x *q sine_sum41 x)) (2 ^ 177)
cosine-double x h =
    let z = x *q x in let e = ev_r (z ∷ []) cosine_e in
    abs-eq e (cosine_sum42 (x +q x) -q (cosine_sum42 x *q cosine_sum42 x -q sine_sum41 x *q sine_sum41 x)) (2 ^ 177)
    (cosine-ev z ∙ cosine-parts x (poly γ (qn 4 *q z)) (poly σ z) (poly γ z)
    ∙ ap₂ (λ a b. a -q b) (ap (poly γ) (sym (four x)) ∙ sym (cosine-is (x +q x)))
    (ap₂ (λ a b. a -q b) (ap₂ ◌*q◌ (sym (cosine-is x)) (sym (cosine-is x))) (ap₂ ◌*q◌ (sym (sine-is x)) (sym (sine-is x)))))
    (bounded cosine_e (mul_up wide wide) (2 ^ 177) z (cosine-test z) (abs-mul x x wide wide h h))

-- ---- the tangent. The variables: what the two sums above are off by, C(x), q, q', S(x) - q' C(x), 2 q' + q q'² - q
tangent_e : Rx
tangent_e = rv 0 ⊖ rv 3 ⊗ rv 1 ⊕ (rv 2 ⊗ rv 2 ⊗ rv 6 ⊕ nat 2 ⊗ rv 5 ⊗ rv 2 ⊕ nat 2 ⊗ rv 3 ⊗ rv 4 ⊗ rv 2 ⊗ rv 5 ⊕ rv 3 ⊗ rv 5 ⊗ rv 5)

tangent-parts : (s c s₂ c₂ q p : ℚ)
    → ev_r ((s₂ -q qn 2 *q (s *q c)) ∷ (c₂ -q (c *q c -q s *q s)) ∷ c ∷ q ∷ p ∷ (s -q p *q c) ∷ (qn 2 *q p +q q *q (p *q p) -q q) ∷ []) tangent_e
    ≡ s₂ -q q *q c₂
unfolding same_q tangent_e
tangent-parts s c s₂ c₂ q p =
    let S = rv 0 in let C = rv 1 in let S₂ = rv 2 in let C₂ = rv 3 in let Q = rv 4 in let P = rv 5 in
    let D = S ⊖ P ⊗ C in
    ring_q (s ∷ c ∷ s₂ ∷ c₂ ∷ q ∷ p ∷ [])
    ((S₂ ⊖ nat 2 ⊗ (S ⊗ C)) ⊖ Q ⊗ (C₂ ⊖ (C ⊗ C ⊖ S ⊗ S)) ⊕ (C ⊗ C ⊗ (nat 2 ⊗ P ⊕ Q ⊗ (P ⊗ P) ⊖ Q) ⊕ nat 2 ⊗ D ⊗ C ⊕ nat 2 ⊗ Q ⊗ P ⊗ C ⊗ D ⊕ Q ⊗ D ⊗ D))
    (S₂ ⊖ Q ⊗ C₂) tt

-- the bound on C(x)
cos_top : ℕ
cos_top = 5 * 2 ^ 254

tangentβ : ℕ → ℕ → ℕ → ℕ → List ℕ
unfolding cos_top
tangentβ Q P e r = 2 ^ 177 ∷ 2 ^ 177 ∷ cos_top ∷ Q ∷ P ∷ e ∷ r ∷ []

unfoldable pub tangent_ok : ℕ → ℕ → ℕ → ℕ → ℕ → Bool
unfolding bounds tangent_e tangentβ
tangent_ok Q P e r N = bounds (tangentβ Q P e r) tangent_e N

pub tangent : (Q P e r N : ℕ) → T (tangent_ok Q P e r N) → (x q p : ℚ) → Abs x wide → Abs q Q
    → Abs p P → Abs (sine_sum41 x -q p *q cosine_sum42 x) e → Abs (qn 2 *q p +q q *q (p *q p) -q q) r
    → Abs (sine_sum41 (x +q x) -q q *q cosine_sum42 (x +q x)) N
unfolding tangent_ok tangentβ cos_top cosine_fits
tangent Q P e r N t x q p hx hq hp he hr =
    let s = sine_sum41 x in let c = cosine_sum42 x in let s₂ = sine_sum41 (x +q x) in
    let c₂ = cosine_sum42 (x +q x) in
    let v : List ℚ = (s₂ -q qn 2 *q (s *q c)) ∷ (c₂ -q (c *q c -q s *q s)) ∷ c ∷ q ∷ p ∷ (s -q p *q c) ∷ (qn 2 *q p +q q *q (p *q p) -q q) ∷ [] in
    abs-eq (ev_r v tangent_e) (s₂ -q q *q c₂) N (tangent-parts s c s₂ c₂ q p)
    (bound v (tangentβ Q P e r) (sine-double x hx, (cosine-double x hx, (cosine-top wide cos_top tt x hx, (hq, (hp, (he, (hr, tt))))))) tangent_e N t)
