-- The test of `Ring` for polynomials with rational coefficients: a polynomial with whole
-- coefficients over one denominator. And a bound on a polynomial in one variable.
use Rattle.std.specs.Prelude.{◌≡◌, List, [], ◌∷◌, Bool, true, false, not, ℕ, ◌+◌, ◌-◌, ◌*◌, ◌/◌, ◌%◌, ◌≤◌, ◌<◌, T, eqb}
use Rattle.std.proofs.Common.{sym, ap, ap₂, ◌∙◌, subst, mul-pos, zero-lt-suc, div-add-mod', mul-le-mul_right, arith, eqb→eq}
use mathlib.Core.Quot.{sound}
use Rattle.std.proofs.Math.Nat.{lt-div-mul-add}
use Rattle.std.proofs.Math.Arith.{lt→nleb}
use Rattle.exact.specs.Abs.{U, iv, iv_f, iv-le, 0≤, Abs, mul_up, abs-add, abs-mul}
use Rattle.exact.specs.Rat.{ℚ, Fr, mk, qn, whole, leq, ◌+q◌, ◌-q◌, ◌*q◌, negq, *q-mk, ≤-mk, ≤q-sub, 0≤-add, add_f, neg_f, *q-neg, *q-comm, *q-one}
use Rattle.exact.specs.Rat.{inv, inv-ok, cancel-nn}
use Rattle.exact.specs.Ring.{var, con, ◌:+◌, ◌:-◌, ◌:*◌, at, same, ring, Po, add_p, neg_p, mul_p, is_z, con_p, var_p, ev_p, add_ok, neg-ok, mul_ok}
use Rattle.exact.specs.Ring.{con-ok, var-ok, is_z-ok, sub-zero, ev_l}

infixl 65 ◌⊕◌ ◌⊖◌
infixl 70 ◌⊗◌
pub data Rx : Type 0 where
  rv : ℕ → Rx
  rat : Fr → Rx
  ◌⊕◌ ◌⊖◌ ◌⊗◌ : Rx → Rx → Rx

abbrev pub ev_r : List ℚ → Rx → ℚ
ev_r ρ (rv i) = at ρ i
ev_r ρ (rat q) = mk q
ev_r ρ (a ⊕ b) = ev_r ρ a +q ev_r ρ b
ev_r ρ (a ⊖ b) = ev_r ρ a -q ev_r ρ b
ev_r ρ (a ⊗ b) = ev_r ρ a *q ev_r ρ b

-- a polynomial over D
pub data Ov (ρ : List ℚ) : Type 0 where
  ov : ℕ → Po ρ → Ov ρ

scale_p : (ρ : List ℚ) → ℕ → Po ρ → Po ρ
unfolding mul_p con_p
scale_p ρ c p = mul_p ρ (con_p ρ c) p

-- over the greater denominator where it is a multiple of the other
add_o : (ρ : List ℚ) → Ov ρ → Ov ρ → Ov ρ
unfolding scale_p add_p
add_o ρ (ov D p) (ov E q) =
    elim (eqb (E % D) 0) [
      | true ↦ ov E (add_p ρ (scale_p ρ (E / D) p) q)
      | false ↦ ov (D * E) (add_p ρ (scale_p ρ E p) (scale_p ρ D q))
    ]

neg_o : (ρ : List ℚ) → Ov ρ → Ov ρ
unfolding neg_p
neg_o ρ (ov D p) = ov D (neg_p ρ p)

mul_o : (ρ : List ℚ) → Ov ρ → Ov ρ → Ov ρ
unfolding mul_p
mul_o ρ (ov D p) (ov E q) = ov (D * E) (mul_p ρ p q)

con_q : (ρ : List ℚ) → Fr → Po ρ
unfolding add_p neg_p con_p
con_q ρ q = add_p ρ (con_p ρ q.p) (neg_p ρ (con_p ρ q.n))

unfoldable pub norm_o : (ρ : List ℚ) → Rx → Ov ρ
unfolding add_o neg_o mul_o con_q var_p
norm_o ρ (rv i) = ov 1 (var_p ρ i)
norm_o ρ (rat q) = ov q.d (con_q ρ q)
norm_o ρ (a ⊕ b) = add_o ρ (norm_o ρ a) (norm_o ρ b)
norm_o ρ (a ⊖ b) = add_o ρ (norm_o ρ a) (neg_o ρ (norm_o ρ b))
norm_o ρ (a ⊗ b) = mul_o ρ (norm_o ρ a) (norm_o ρ b)

-- x is the polynomial over its denominator
abbrev pub Is : (ρ : List ℚ) → ℚ → Ov ρ → Type 0
Is ρ x (ov D p) = (0 < D) × (qn D *q x ≡ ev_p ρ p)

qn-mul : (a b : ℕ) → qn (a * b) ≡ qn a *q qn b
qn-mul a b = sym (*q-mk (whole a 0) (whole b 0) ∙ sound (omega arith))

scale_ok : (ρ : List ℚ) (c : ℕ) (p : Po ρ) → ev_p ρ (scale_p ρ c p) ≡ qn c *q ev_p ρ p
unfolding scale_p
scale_ok ρ c p = mul_ok ρ (con_p ρ c) p ∙ ap (λ z. z *q ev_p ρ p) (con-ok ρ c)

cross : (d e x y u v : ℚ) → d *q x ≡ u → e *q y ≡ v → d *q e *q (x +q y) ≡ e *q u +q d *q v
unfolding same
cross d e x y u v h k =
    ring (d ∷ e ∷ x ∷ y ∷ []) (var 0 :* var 1 :* (var 2 :+ var 3)) (var 1 :* (var 0 :* var 2) :+ var 0 :* (var 1 :* var 3)) tt
    ∙ ap₂ (λ s t. e *q s +q d *q t) h k

along : (c d x y u v : ℚ) → d *q x ≡ u → c *q d *q y ≡ v → c *q d *q (x +q y) ≡ c *q u +q v
unfolding same
along c d x y u v h k =
    ring (c ∷ d ∷ x ∷ y ∷ []) (var 0 :* var 1 :* (var 2 :+ var 3)) (var 0 :* (var 1 :* var 2) :+ var 0 :* var 1 :* var 3) tt
    ∙ ap₂ (λ s t. c *q s +q t) h k

exactly : (D E : ℕ) → E % D ≡ 0 → E / D * D ≡ E
exactly D E h = omega (arith, div-add-mod' E D)

add_o-ok : (ρ : List ℚ) (x y : ℚ) (a b : Ov ρ) → Is ρ x a → Is ρ y b → Is ρ (x +q y) (add_o ρ a b)
unfolding add_o
add_o-ok ρ x y (ov D p) (ov E q) h k = go (eqb (E % D) 0) (eqb→eq (E % D) 0)
  where
    go : (t : Bool) → (T t → E % D ≡ 0)
        → Is ρ (x +q y) (elim t [ true ↦ ov E (add_p ρ (scale_p ρ (E / D) p) q) | false ↦ ov (D * E) (add_p ρ (scale_p ρ E p) (scale_p ρ D q)) ])
    go true z =
        let e : qn E ≡ qn (E / D) *q qn D = ap qn (sym (exactly D E (z tt))) ∙ qn-mul (E / D) D in (
          k.0,
          ap (λ w. w *q (x +q y)) e ∙ along (qn (E / D)) (qn D) x y (ev_p ρ p) (ev_p ρ q) h.1 (ap (λ w. w *q y) (sym e) ∙ k.1)
              ∙ sym (add_ok ρ (scale_p ρ (E / D) p) q ∙ ap (λ w. w +q ev_p ρ q) (scale_ok ρ (E / D) p)),
        )
    go false z = (
      mul-pos h.0 k.0,
      ap (λ w. w *q (x +q y)) (qn-mul D E) ∙ cross (qn D) (qn E) x y (ev_p ρ p) (ev_p ρ q) h.1 k.1
          ∙ sym (add_ok ρ (scale_p ρ E p) (scale_p ρ D q) ∙ ap₂ ◌+q◌ (scale_ok ρ E p) (scale_ok ρ D q)),
    )

neg_o-ok : (ρ : List ℚ) (x : ℚ) (a : Ov ρ) → Is ρ x a → Is ρ (negq x) (neg_o ρ a)
unfolding neg_o
neg_o-ok ρ x (ov D p) h = (h.0, *q-neg (qn D) x ∙ ap negq h.1 ∙ sym (neg-ok ρ p))

prod : (d e x y u v : ℚ) → d *q x ≡ u → e *q y ≡ v → d *q e *q (x *q y) ≡ u *q v
unfolding same
prod d e x y u v h k = ring (d ∷ e ∷ x ∷ y ∷ []) (var 0 :* var 1 :* (var 2 :* var 3)) ((var 0 :* var 2) :* (var 1 :* var 3)) tt ∙ ap₂ ◌*q◌ h k

mul_o-ok : (ρ : List ℚ) (x y : ℚ) (a b : Ov ρ) → Is ρ x a → Is ρ y b → Is ρ (x *q y) (mul_o ρ a b)
unfolding mul_o
mul_o-ok ρ x y (ov D p) (ov E q) h k =
    (mul-pos h.0 k.0, ap (λ w. w *q (x *q y)) (qn-mul D E) ∙ prod (qn D) (qn E) x y (ev_p ρ p) (ev_p ρ q) h.1 k.1 ∙ sym (mul_ok ρ p q))

rat-is : (q : Fr) → qn q.d *q mk q ≡ qn q.p -q qn q.n
unfolding ◌+q◌ ◌*q◌ negq
rat-is q = sound (omega arith)

pub norm_o-ok : (ρ : List ℚ) (e : Rx) → Is ρ (ev_r ρ e) (norm_o ρ e)
unfolding norm_o con_q
norm_o-ok ρ (rv i) = (zero-lt-suc 0, *q-comm (qn 1) (at ρ i) ∙ *q-one (at ρ i) ∙ sym (var-ok ρ i))
norm_o-ok ρ (rat q) = (
  q.dp,
  rat-is q
      ∙ sym (add_ok ρ (con_p ρ q.p) (neg_p ρ (con_p ρ q.n)) ∙ ap₂ ◌+q◌ (con-ok ρ q.p) (neg-ok ρ (con_p ρ q.n) ∙ ap negq (con-ok ρ q.n))),
)
norm_o-ok ρ (a ⊕ b) = add_o-ok ρ (ev_r ρ a) (ev_r ρ b) (norm_o ρ a) (norm_o ρ b) (norm_o-ok ρ a) (norm_o-ok ρ b)
norm_o-ok ρ (a ⊖ b) = add_o-ok ρ (ev_r ρ a) (negq (ev_r ρ b)) (norm_o ρ a) (neg_o ρ (norm_o ρ b)) (norm_o-ok ρ a)
    (neg_o-ok ρ (ev_r ρ b) (norm_o ρ b) (norm_o-ok ρ b))
norm_o-ok ρ (a ⊗ b) = mul_o-ok ρ (ev_r ρ a) (ev_r ρ b) (norm_o ρ a) (norm_o ρ b) (norm_o-ok ρ a) (norm_o-ok ρ b)

-- ---- identities
zero_o : (ρ : List ℚ) → Ov ρ → Bool
unfolding is_z
zero_o ρ (ov D p) = is_z ρ p

pub qn-pos : (D : ℕ) → 0 < D → T (not (leq (qn D) (qn 0)))
unfolding leq
qn-pos D h = lt→nleb (D * 1 + 0 * 1) (0 * 1 + 0 * 1) (omega arith)

zero-div : (d x : ℚ) → T (not (leq d (qn 0))) → d *q x ≡ qn 0 → x ≡ qn 0
unfolding same
zero-div d x t h =
    sym (*q-one x) ∙ ap (λ w. x *q w) (sym (inv-ok d t)) ∙ ring (d ∷ x ∷ inv d ∷ []) (var 1 :* (var 0 :* var 2)) (var 0 :* var 1 :* var 2) tt
    ∙ ap (λ w. w *q inv d) h ∙ ring (inv d ∷ []) (con 0 :* var 0) (con 0) tt

unfoldable pub same_q : List ℚ → Rx → Rx → Bool
unfolding norm_o zero_o
same_q ρ a b = zero_o ρ (norm_o ρ (a ⊖ b))

is_zero : (ρ : List ℚ) (x : ℚ) (o : Ov ρ) → Is ρ x o → T (zero_o ρ o) → x ≡ qn 0
unfolding zero_o
is_zero ρ x (ov D p) h t = zero-div (qn D) x (qn-pos D h.0) (h.1 ∙ is_z-ok ρ p t)

pub ring_q : (ρ : List ℚ) (a b : Rx) → T (same_q ρ a b) → ev_r ρ a ≡ ev_r ρ b
unfolding same_q
ring_q ρ a b t = sub-zero (ev_r ρ a) (ev_r ρ b) (is_zero ρ (ev_r ρ (a ⊖ b)) (norm_o ρ (a ⊖ b)) (norm_o-ok ρ (a ⊖ b)) t)

-- ---- a bound on a polynomial in one variable, |x| ≤ X / U
bnd_l : ℕ → List (ℕ × ℕ) → ℕ
bnd_l X [] = 0
bnd_l X (c ∷ p) = ((c.0 - c.1) + (c.1 - c.0)) * U + mul_up X (bnd_l X p)

whole-bound : (p n : ℕ) → Abs (mk (whole p n)) (((p - n) + (n - p)) * U)
unfolding iv ◌+q◌ negq
whole-bound p n = (
  ≤-mk (whole 0 0) (add_f (iv_f (((p - n) + (n - p)) * U)) (neg_f (whole p n))) (go ((p - n) + (n - p)) U (omega arith)),
  ≤-mk (whole 0 0) (add_f (iv_f (((p - n) + (n - p)) * U)) (whole p n)) (go' ((p - n) + (n - p)) U (omega arith)),
)
  where
    go : (k u : ℕ) → p ≤ n + k → 0 * (u * 1) + (0 * 1 + p * u) * 1 ≤ (k * u * 1 + n * u) * 1 + 0 * (u * 1)
    go k u h = omega (arith, mul-le-mul_right u h)

    go' : (k u : ℕ) → n ≤ p + k → 0 * (u * 1) + (0 * 1 + n * u) * 1 ≤ (k * u * 1 + p * u) * 1 + 0 * (u * 1)
    go' k u h = omega (arith, mul-le-mul_right u h)

zero-bound : Abs (qn 0) 0
unfolding iv ◌+q◌ negq
zero-bound = (≤-mk (whole 0 0) (add_f (iv_f 0) (neg_f (whole 0 0))) (omega arith), ≤-mk (whole 0 0) (add_f (iv_f 0) (whole 0 0)) (omega arith))

bnd_l-ok : (x : ℚ) (X : ℕ) → Abs x X → (p : List (ℕ × ℕ)) → Abs (ev_p (x ∷ []) p) (bnd_l X p)
unfolding ev_p ev_l bnd_l
bnd_l-ok x X h [] = zero-bound
bnd_l-ok x X h (c ∷ p) =
    abs-add (mk (whole c.0 c.1)) (x *q ev_p (x ∷ []) p) (((c.0 - c.1) + (c.1 - c.0)) * U) (mul_up X (bnd_l X p))
    (whole-bound c.0 c.1) (abs-mul x (ev_p (x ∷ []) p) X (bnd_l X p) h (bnd_l-ok x X h p))

iv-scale : (D c : ℕ) → qn D *q iv c ≡ iv (D * c)
unfolding iv
iv-scale D c = *q-mk (whole D 0) (iv_f c) ∙ sound (omega arith)

abs-quot : (D : ℕ) (v w : ℚ) (R : ℕ) → 0 < D → qn D *q v ≡ w → Abs w R → Abs v (R / D + 1)
unfolding same
abs-quot D v w R Dp e h =
    let c = R / D + 1 in
    let l : R ≤ D * c = le_up (R / D) (lt-div-mul-add Dp) in
    let k = ≤q-sub (iv R) (iv (D * c)) (iv-le R (D * c) l) in let ρ = iv R ∷ iv (D * c) ∷ w ∷ [] in
    let σ = qn D ∷ iv c ∷ v ∷ [] in let t = qn-pos D Dp in
    let below = ring ρ ((var 1 :- var 0) :+ (var 0 :- var 2)) (var 1 :- var 2) tt
    ∙ ap₂ (λ a b. a -q b) (sym (iv-scale D c)) (sym e) ∙ ring σ (var 0 :* var 1 :- var 0 :* var 2) (var 0 :* (var 1 :- var 2)) tt in
    let above = ring ρ ((var 1 :- var 0) :+ (var 0 :+ var 2)) (var 1 :+ var 2) tt
    ∙ ap₂ (λ a b. a +q b) (sym (iv-scale D c)) (sym e) ∙ ring σ (var 0 :* var 1 :+ var 0 :* var 2) (var 0 :* (var 1 :+ var 2)) tt in (
      cancel-nn (qn D) (iv c -q v) t (subst 0≤ below (0≤-add (iv (D * c) -q iv R) (iv R -q w) k h.0)),
      cancel-nn (qn D) (iv c +q v) t (subst 0≤ above (0≤-add (iv (D * c) -q iv R) (iv R +q w) k h.1)),
    )
  where
    le_up : (q : ℕ) → R < q * D + D → R ≤ D * (q + 1)
    le_up q h = omega arith

bnd_o : (x : ℚ) → ℕ → Ov (x ∷ []) → ℕ
unfolding bnd_l
bnd_o x X (ov D p) = bnd_l X p / D + 1

unfoldable pub bnd_r : ℚ → ℕ → Rx → ℕ
unfolding norm_o bnd_o U
bnd_r x X e = bnd_o x X (norm_o (x ∷ []) e)

bnd_o-ok : (x v : ℚ) (X : ℕ) → Abs x X → (o : Ov (x ∷ [])) → Is (x ∷ []) v o → Abs v (bnd_o x X o)
unfolding bnd_o
bnd_o-ok x v X h (ov D p) k = abs-quot D v (ev_p (x ∷ []) p) (bnd_l X p) k.0 k.1 (bnd_l-ok x X h p)

-- the value of a polynomial in x, by one computation
pub bnd_r-ok : (x : ℚ) (X : ℕ) → Abs x X → (e : Rx) → Abs (ev_r (x ∷ []) e) (bnd_r x X e)
unfolding bnd_r
bnd_r-ok x X h e = bnd_o-ok x (ev_r (x ∷ []) e) X h (norm_o (x ∷ []) e) (norm_o-ok (x ∷ []) e)
