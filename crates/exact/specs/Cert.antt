-- Three ways to a fact about rational numbers by one computed test:
-- `by-eqs`, an equation from equations, with a factor for each; `by-cert`, an order from what is not negative, by
-- sums, products and squares of it; `bound`, an absolute bound on a polynomial in several variables.
use Rattle.std.specs.Prelude.{◌≡◌, refl, List, [], ◌∷◌, Bool, true, false, not, ◌&&◌, ℕ, zero, suc, ◌+◌, T, leb}
use Rattle.std.proofs.Common.{sym, ap, ap₂, ◌∙◌, subst, zero-lt-suc, arith, leb→le}
use Rattle.exact.specs.Rat.{ℚ, Fr, mk, qn, whole, leq, ◌+q◌, ◌-q◌, ◌*q◌, ◌≤q◌, ≤-mk, ≤q-sub, sub-≤q, ≤q-total, ≤q-refl, 0≤-add, 0≤-mul, +q-zero}
use Rattle.exact.specs.Ring.{var, con, ◌:+◌, ◌:-◌, ◌:*◌, at, same, ring}
use Rattle.exact.specs.RingQ.{Rx, rv, rat, ◌⊕◌, ◌⊖◌, ◌⊗◌, ev_r, same_q, ring_q}
use Rattle.exact.specs.Abs.{U, 0≤, Abs, mul_up, abs-mono, abs-add, abs-sub, abs-mul}
use Rattle.exact.specs.Check.{abs_up, abs_up-ok}

-- a whole number
abbrev pub nat : ℕ → Rx
nat c = rat (whole c 0)

-- ---- equations, as pairs of expressions
abbrev pub Eqs : List ℚ → List (Rx × Rx) → Type 0
Eqs ρ [] = Unit {0}
Eqs ρ (e ∷ E) = (ev_r ρ e.0 ≡ ev_r ρ e.1) × Eqs ρ E

-- the sum of a factor times each difference
unfoldable pub comb : List (Rx × Rx) → List Rx → Rx
comb [] cs = nat 0
comb (e ∷ E) [] = nat 0
comb (e ∷ E) (c ∷ cs) = c ⊗ (e.0 ⊖ e.1) ⊕ comb E cs

comb-zero : (ρ : List ℚ) (E : List (Rx × Rx)) → Eqs ρ E → (cs : List Rx) → ev_r ρ (comb E cs) ≡ qn 0
unfolding comb same
comb-zero ρ [] h cs = refl
comb-zero ρ (e ∷ E) h [] = refl
comb-zero ρ (e ∷ E) h (c ∷ cs) =
    ap₂ (λ u v. ev_r ρ c *q (u -q ev_r ρ e.1) +q v) h.0 (comb-zero ρ E h.1 cs)
    ∙ ring (ev_r ρ c ∷ ev_r ρ e.1 ∷ []) (var 0 :* (var 1 :- var 1) :+ con 0) (con 0) tt

pub by-eqs : (ρ : List ℚ) (E : List (Rx × Rx)) → Eqs ρ E → (cs : List Rx) (a b : Rx) → T (same_q ρ a (b ⊕ comb E cs)) → ev_r ρ a ≡ ev_r ρ b
by-eqs ρ E h cs a b t = ring_q ρ a (b ⊕ comb E cs) t ∙ ap (λ z. ev_r ρ b +q z) (comb-zero ρ E h cs) ∙ +q-zero (ev_r ρ b)

-- ---- what is not negative
pub 0≤-sq : (x : ℚ) → 0≤ (x *q x)
unfolding same
0≤-sq x = go (leq (qn 0) x) refl
  where
    go : (b : Bool) → leq (qn 0) x ≡ b → 0≤ (x *q x)
    go true e = let h = subst T (sym e) tt in 0≤-mul x x h h
    go false e =
        let h = ≤q-sub x (qn 0) (≤q-total (qn 0) x (subst (λ b. T (not b)) (sym e) tt)) in
        subst 0≤ (ring (x ∷ []) ((con 0 :- var 0) :* (con 0 :- var 0)) (var 0 :* var 0) tt) (0≤-mul (qn 0 -q x) (qn 0 -q x) h h)

infixl 65 ◌⊞◌
infixl 70 ◌⊠◌
pub data Ct : Type 0 where
  hyp : ℕ → Ct
  sqr : Rx → Ct
  num : ℕ → ℕ → Ct  -- a / (b + 1)
  ◌⊞◌ ◌⊠◌ : Ct → Ct → Ct

abbrev pub look : List Rx → ℕ → Rx
look [] i = nat 0
look (e ∷ H) zero = e
look (e ∷ H) (suc i) = look H i

over : ℕ → ℕ → Fr
over a b = record { p = a; n = 0; d = suc b; dp = zero-lt-suc b }

unfoldable pub den : List Rx → Ct → Rx
unfolding over
den H (hyp i) = look H i
den H (sqr e) = e ⊗ e
den H (num a b) = rat (over a b)
den H (c ⊞ d) = den H c ⊕ den H d
den H (c ⊠ d) = den H c ⊗ den H d

abbrev pub Nns : List ℚ → List Rx → Type 0
Nns ρ [] = Unit {0}
Nns ρ (e ∷ H) = 0≤ (ev_r ρ e) × Nns ρ H

look-nn : (ρ : List ℚ) (H : List Rx) → Nns ρ H → (i : ℕ) → 0≤ (ev_r ρ (look H i))
look-nn ρ [] h i = ≤q-refl (qn 0)
look-nn ρ (e ∷ H) h zero = h.0
look-nn ρ (e ∷ H) h (suc i) = look-nn ρ H h.1 i

over-nn : (a b : ℕ) → 0≤ (mk (over a b))
unfolding over
over-nn a b = ≤-mk (whole 0 0) (record { p = a; n = 0; d = suc b; dp = zero-lt-suc b }) (omega arith)

den-nn : (ρ : List ℚ) (H : List Rx) → Nns ρ H → (c : Ct) → 0≤ (ev_r ρ (den H c))
unfolding den
den-nn ρ H h (hyp i) = look-nn ρ H h i
den-nn ρ H h (sqr e) = 0≤-sq (ev_r ρ e)
den-nn ρ H h (num a b) = over-nn a b
den-nn ρ H h (c ⊞ d) = 0≤-add (ev_r ρ (den H c)) (ev_r ρ (den H d)) (den-nn ρ H h c) (den-nn ρ H h d)
den-nn ρ H h (c ⊠ d) = 0≤-mul (ev_r ρ (den H c)) (ev_r ρ (den H d)) (den-nn ρ H h c) (den-nn ρ H h d)

pub by-cert : (ρ : List ℚ) (E : List (Rx × Rx)) → Eqs ρ E → (H : List Rx) → Nns ρ H
    → (cs : List Rx) (c : Ct) (a b : Rx) → T (same_q ρ (b ⊖ a) (den H c ⊕ comb E cs)) → ev_r ρ a ≤q ev_r ρ b
by-cert ρ E e H h cs c a b t =
    sub-≤q (ev_r ρ a) (ev_r ρ b) (subst 0≤ (sym (ring_q ρ (b ⊖ a) (den H c ⊕ comb E cs) t
    ∙ ap (λ z. ev_r ρ (den H c) +q z) (comb-zero ρ E e cs) ∙ +q-zero (ev_r ρ (den H c)))) (den-nn ρ H h c))

-- ---- a bound on a polynomial
abbrev pub Within : List ℚ → List ℕ → Type 0
Within σ [] = Unit {0}
Within [] (m ∷ β) = ⊥
Within (x ∷ σ) (m ∷ β) = Abs x m × Within σ β

pub data Bn : Type 0 where
  bn : ℕ → Bool → Bn

fits : Bn → Bool
fits (bn m o) = o

top : Bn → ℕ
top (bn m o) = m

sum_b : Bn → Bn → Bn
sum_b (bn m o) (bn n p) = bn (m + n) (o && p)

prod_b : Bn → Bn → Bn
prod_b (bn m o) (bn n p) = bn (mul_up m n) (o && p)

at_b : List ℕ → ℕ → Bn
at_b [] i = bn 0 false
at_b (m ∷ β) zero = bn m true
at_b (m ∷ β) (suc i) = at_b β i

bnd : List ℕ → Rx → Bn
unfolding sum_b prod_b at_b abs_up U
bnd β (rv i) = at_b β i
bnd β (rat q) = bn (abs_up q) true
bnd β (a ⊕ b) = sum_b (bnd β a) (bnd β b)
bnd β (a ⊖ b) = sum_b (bnd β a) (bnd β b)
bnd β (a ⊗ b) = prod_b (bnd β a) (bnd β b)

abbrev Holds : ℚ → Bn → Type 0
Holds x (bn m o) = T o → Abs x m

and_both : (a b : Bool) → T (a && b) → T a × T b
and_both true true t = (tt, tt)
and_both true false t = absurd t
and_both false b t = absurd t

sum_b-ok : (x y : ℚ) (a b : Bn) → Holds x a → Holds y b → Holds (x +q y) (sum_b a b)
unfolding sum_b
sum_b-ok x y (bn m o) (bn n p) h k = λ t. let s = and_both o p t in abs-add x y m n (h s.0) (k s.1)

sub_b-ok : (x y : ℚ) (a b : Bn) → Holds x a → Holds y b → Holds (x -q y) (sum_b a b)
unfolding sum_b
sub_b-ok x y (bn m o) (bn n p) h k = λ t. let s = and_both o p t in abs-sub x y m n (h s.0) (k s.1)

prod_b-ok : (x y : ℚ) (a b : Bn) → Holds x a → Holds y b → Holds (x *q y) (prod_b a b)
unfolding prod_b
prod_b-ok x y (bn m o) (bn n p) h k = λ t. let s = and_both o p t in abs-mul x y m n (h s.0) (k s.1)

at_b-ok : (σ : List ℚ) (β : List ℕ) → Within σ β → (i : ℕ) → Holds (at σ i) (at_b β i)
unfolding at_b
at_b-ok σ [] h i = λ t. absurd t
at_b-ok [] (m ∷ β) h i = absurd h
at_b-ok (x ∷ σ) (m ∷ β) h zero = λ t. h.0
at_b-ok (x ∷ σ) (m ∷ β) h (suc i) = at_b-ok σ β h.1 i

bnd-ok : (σ : List ℚ) (β : List ℕ) → Within σ β → (e : Rx) → Holds (ev_r σ e) (bnd β e)
unfolding bnd
bnd-ok σ β h (rv i) = at_b-ok σ β h i
bnd-ok σ β h (rat q) = λ t. abs_up-ok q
bnd-ok σ β h (a ⊕ b) = sum_b-ok (ev_r σ a) (ev_r σ b) (bnd β a) (bnd β b) (bnd-ok σ β h a) (bnd-ok σ β h b)
bnd-ok σ β h (a ⊖ b) = sub_b-ok (ev_r σ a) (ev_r σ b) (bnd β a) (bnd β b) (bnd-ok σ β h a) (bnd-ok σ β h b)
bnd-ok σ β h (a ⊗ b) = prod_b-ok (ev_r σ a) (ev_r σ b) (bnd β a) (bnd β b) (bnd-ok σ β h a) (bnd-ok σ β h b)

unfoldable pub bounds : List ℕ → Rx → ℕ → Bool
unfolding bnd fits top
bounds β e N = fits (bnd β e) && leb (top (bnd β e)) N

pub bound : (σ : List ℚ) (β : List ℕ) → Within σ β → (e : Rx) (N : ℕ) → T (bounds β e N) → Abs (ev_r σ e) N
unfolding bounds
bound σ β h e N t = go (bnd β e) (bnd-ok σ β h e) t
  where
    go : (o : Bn) → Holds (ev_r σ e) o → T (fits o && leb (top o) N) → Abs (ev_r σ e) N
    go (bn m o) k t = let s = and_both o (leb m N) t in abs-mono (ev_r σ e) m N (leb→le m N s.1) (k s.0)

pub by-nn : (ρ : List ℚ) (E : List (Rx × Rx)) → Eqs ρ E → (H : List Rx) → Nns ρ H
    → (cs : List Rx) (c : Ct) (a : Rx) → T (same_q ρ a (den H c ⊕ comb E cs)) → 0≤ (ev_r ρ a)
by-nn ρ E e H h cs c a t =
    subst 0≤
    (sym (ring_q ρ a (den H c ⊕ comb E cs) t ∙ ap (λ z. ev_r ρ (den H c) +q z) (comb-zero ρ E e cs) ∙ +q-zero (ev_r ρ (den H c)))) (den-nn ρ H h c)
