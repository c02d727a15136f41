-- A test for polynomial identities over ℚ. A polynomial in the variables x ∷ ρ is a list of polynomials in ρ, the coefficients of the powers of x.
use Rattle.std.specs.Prelude.{◌≡◌, refl, List, [], ◌∷◌, Bool, true, ◌&&◌, ℕ, zero, suc, ◌+◌, ◌*◌, T, eqb}
use Rattle.std.proofs.Common.{sym, ap, ap₂, ◌∙◌, arith, eqb→eq}
use mathlib.Core.Quot.{sound}
use Rattle.std.specs.Float.Ieee.Fits.{and_l, and_r}
use Rattle.exact.specs.Rat.{ℚ, mk, qn, whole, ◌+q◌, ◌-q◌, ◌*q◌, negq, +q-mk, *q-mk, negq-mk, +q-assoc, +q-comm, +q-left-comm, *q-assoc, *q-comm}
use Rattle.exact.specs.Rat.{*q-left-comm, *q-add, add-*q, +q-zero, +q-neg, *q-zero, *q-one, *q-neg, neg-add, neg-zero}

infixl 65 ◌:+◌ ◌:-◌
infixl 70 ◌:*◌
pub data Ex : Type 0 where
  var : ℕ → Ex
  con : ℕ → Ex
  ◌:+◌ ◌:-◌ ◌:*◌ : Ex → Ex → Ex
  ng : Ex → Ex

abbrev pub at : List ℚ → ℕ → ℚ
at [] i = qn 0
at (x ∷ ρ) zero = x
at (x ∷ ρ) (suc i) = at ρ i

abbrev pub eval : List ℚ → Ex → ℚ
eval ρ (var i) = at ρ i
eval ρ (con c) = qn c
eval ρ (a :+ b) = eval ρ a +q eval ρ b
eval ρ (a :- b) = eval ρ a -q eval ρ b
eval ρ (a :* b) = eval ρ a *q eval ρ b
eval ρ (ng a) = negq (eval ρ a)

-- ---- lists of coefficients
unfoldable pub add_l : {A : Type 0} → (A → A → A) → List A → List A → List A
add_l f [] q = q
add_l f (a ∷ p) [] = a ∷ p
add_l f (a ∷ p) (b ∷ q) = f a b ∷ add_l f p q

unfoldable pub map_l : {A : Type 0} → (A → A) → List A → List A
map_l f [] = []
map_l f (a ∷ p) = f a ∷ map_l f p

unfoldable pub mul_l : {A : Type 0} → A → (A → A → A) → (A → A → A) → List A → List A → List A
unfolding add_l map_l
mul_l z f g [] q = []
mul_l z f g (a ∷ p) q = add_l f (map_l (g a) q) (z ∷ mul_l z f g p q)

unfoldable pub all_l : {A : Type 0} → (A → Bool) → List A → Bool
all_l f [] = true
all_l f (a ∷ p) = f a && all_l f p

-- ---- the ring of polynomials in as many variables as ρ has entries; only their number counts
abbrev pub Po : List ℚ → Type 0
Po [] = ℕ × ℕ
Po (x ∷ ρ) = List (Po ρ)

unfoldable pub zero_p : (ρ : List ℚ) → Po ρ
zero_p [] = (0, 0)
zero_p (x ∷ ρ) = []

unfoldable pub add_p : (ρ : List ℚ) → Po ρ → Po ρ → Po ρ
unfolding add_l
add_p [] = λ a b. (a.0 + b.0, a.1 + b.1)
add_p (x ∷ ρ) = add_l (add_p ρ)

unfoldable pub neg_p : (ρ : List ℚ) → Po ρ → Po ρ
unfolding map_l
neg_p [] = λ a. (a.1, a.0)
neg_p (x ∷ ρ) = map_l (neg_p ρ)

unfoldable pub mul_p : (ρ : List ℚ) → Po ρ → Po ρ → Po ρ
unfolding mul_l add_p zero_p
mul_p [] = λ a b. (a.0 * b.0 + a.1 * b.1, a.0 * b.1 + a.1 * b.0)
mul_p (x ∷ ρ) = mul_l (zero_p ρ) (add_p ρ) (mul_p ρ)

unfoldable pub is_z : (ρ : List ℚ) → Po ρ → Bool
unfolding all_l
is_z [] = λ a. eqb a.0 a.1
is_z (x ∷ ρ) = all_l (is_z ρ)

unfoldable pub con_p : (ρ : List ℚ) → ℕ → Po ρ
con_p [] c = (c, 0)
con_p (x ∷ ρ) c = con_p ρ c ∷ []

unfoldable pub var_p : (ρ : List ℚ) → ℕ → Po ρ
unfolding zero_p con_p
var_p [] i = (0, 0)
var_p (x ∷ ρ) zero = zero_p ρ ∷ con_p ρ 1 ∷ []
var_p (x ∷ ρ) (suc i) = var_p ρ i ∷ []

norm : (ρ : List ℚ) → Ex → Po ρ
unfolding add_p neg_p mul_p con_p var_p
norm ρ (var i) = var_p ρ i
norm ρ (con c) = con_p ρ c
norm ρ (a :+ b) = add_p ρ (norm ρ a) (norm ρ b)
norm ρ (a :- b) = add_p ρ (norm ρ a) (neg_p ρ (norm ρ b))
norm ρ (a :* b) = mul_p ρ (norm ρ a) (norm ρ b)
norm ρ (ng a) = neg_p ρ (norm ρ a)

-- ---- what they stand for
unfoldable pub ev_l : {A : Type 0} → (A → ℚ) → ℚ → List A → ℚ
ev_l e x [] = qn 0
ev_l e x (a ∷ p) = e a +q x *q ev_l e x p

unfoldable pub ev_p : (ρ : List ℚ) → Po ρ → ℚ
unfolding ev_l
ev_p [] = λ a. mk (whole a.0 a.1)
ev_p (x ∷ ρ) = ev_l (ev_p ρ) x

pub zero-+q : (x : ℚ) → qn 0 +q x ≡ x
zero-+q x = +q-comm (qn 0) x ∙ +q-zero x

add_l-ok : {A : Type 0} (e : A → ℚ) (x : ℚ) (f : A → A → A) → ((a b : A) → e (f a b) ≡ e a +q e b)
    → (p q : List A) → ev_l e x (add_l f p q) ≡ ev_l e x p +q ev_l e x q
unfolding ev_l add_l
add_l-ok e x f h [] q = sym (zero-+q (ev_l e x q))
add_l-ok e x f h (a ∷ p) [] = sym (+q-zero (e a +q x *q ev_l e x p))
add_l-ok e x f h (a ∷ p) (b ∷ q) = ap₂ (λ u v. u +q x *q v) (h a b) (add_l-ok e x f h p q) ∙ (simp (*q-add, +q-assoc, +q-left-comm))

neg_l-ok : {A : Type 0} (e : A → ℚ) (x : ℚ) (f : A → A) → ((a : A) → e (f a) ≡ negq (e a)) → (p : List A) → ev_l e x (map_l f p) ≡ negq (ev_l e x p)
unfolding ev_l map_l
neg_l-ok e x f h [] = sym neg-zero
neg_l-ok e x f h (a ∷ p) = ap₂ (λ u v. u +q x *q v) (h a) (neg_l-ok e x f h p) ∙ simp (neg-add, *q-neg)

map_l-ok : {A : Type 0} (e : A → ℚ) (x : ℚ) (g : A → A → A) → ((a b : A) → e (g a b) ≡ e a *q e b)
    → (a : A) (q : List A) → ev_l e x (map_l (g a) q) ≡ e a *q ev_l e x q
unfolding ev_l map_l
map_l-ok e x g h a [] = sym (*q-zero (e a))
map_l-ok e x g h a (b ∷ q) = ap₂ (λ u v. u +q x *q v) (h a b) (map_l-ok e x g h a q) ∙ (simp (*q-add, *q-left-comm))

step : (a x p q : ℚ) → a *q q +q (qn 0 +q x *q (p *q q)) ≡ (a +q x *q p) *q q
step a x p q = ap (λ z. a *q q +q z) (zero-+q (x *q (p *q q)) ∙ sym (*q-assoc x p q)) ∙ sym (add-*q a (x *q p) q)

mul_l-ok : {A : Type 0} (e : A → ℚ) (x : ℚ) (z : A) (f g : A → A → A) → e z ≡ qn 0
    → ((a b : A) → e (f a b) ≡ e a +q e b) → ((a b : A) → e (g a b) ≡ e a *q e b) → (p q : List A)
    → ev_l e x (mul_l z f g p q) ≡ ev_l e x p *q ev_l e x q
unfolding ev_l mul_l
mul_l-ok e x z f g hz hf hg [] q = sym (*q-comm (qn 0) (ev_l e x q) ∙ *q-zero (ev_l e x q))
mul_l-ok e x z f g hz hf hg (a ∷ p) q =
    add_l-ok e x f hf (map_l (g a) q) (z ∷ mul_l z f g p q)
    ∙ ap₂ ◌+q◌ (map_l-ok e x g hg a q) (ap₂ (λ u v. u +q x *q v) hz (mul_l-ok e x z f g hz hf hg p q))
    ∙ step (e a) x (ev_l e x p) (ev_l e x q)

pub zero_ok : (ρ : List ℚ) → ev_p ρ (zero_p ρ) ≡ qn 0
unfolding ev_p zero_p
zero_ok [] = refl
zero_ok (x ∷ ρ) = refl

pub add_ok : (ρ : List ℚ) (p q : Po ρ) → ev_p ρ (add_p ρ p q) ≡ ev_p ρ p +q ev_p ρ q
unfolding ev_p add_p
add_ok [] p q = sym (+q-mk (whole p.0 p.1) (whole q.0 q.1) ∙ sound (omega arith))
add_ok (x ∷ ρ) p q = add_l-ok (ev_p ρ) x (add_p ρ) (add_ok ρ) p q

pub neg-ok : (ρ : List ℚ) (p : Po ρ) → ev_p ρ (neg_p ρ p) ≡ negq (ev_p ρ p)
unfolding ev_p neg_p
neg-ok [] p = sym (negq-mk (whole p.0 p.1))
neg-ok (x ∷ ρ) p = neg_l-ok (ev_p ρ) x (neg_p ρ) (neg-ok ρ) p

pub mul_ok : (ρ : List ℚ) (p q : Po ρ) → ev_p ρ (mul_p ρ p q) ≡ ev_p ρ p *q ev_p ρ q
unfolding ev_p mul_p
mul_ok [] p q = sym (*q-mk (whole p.0 p.1) (whole q.0 q.1) ∙ sound (omega arith))
mul_ok (x ∷ ρ) p q = mul_l-ok (ev_p ρ) x (zero_p ρ) (add_p ρ) (mul_p ρ) (zero_ok ρ) (add_ok ρ) (mul_ok ρ) p q

one_more : (c x : ℚ) → c +q x *q qn 0 ≡ c
one_more c x = ap (λ z. c +q z) (*q-zero x) ∙ +q-zero c

pub con-ok : (ρ : List ℚ) (c : ℕ) → ev_p ρ (con_p ρ c) ≡ qn c
unfolding ev_p con_p
con-ok [] c = refl
con-ok (x ∷ ρ) c = one_more (ev_p ρ (con_p ρ c)) x ∙ con-ok ρ c

pub var-ok : (ρ : List ℚ) (i : ℕ) → ev_p ρ (var_p ρ i) ≡ at ρ i
unfolding ev_p var_p
var-ok [] i = refl
var-ok (x ∷ ρ) zero =
    ap₂ (λ u v. u +q x *q (v +q x *q qn 0)) (zero_ok ρ) (con-ok ρ 1)
    ∙ zero-+q (x *q (qn 1 +q x *q qn 0)) ∙ ap (λ z. x *q z) (one_more (qn 1) x) ∙ *q-one x
var-ok (x ∷ ρ) (suc i) = one_more (ev_p ρ (var_p ρ i)) x ∙ var-ok ρ i

norm-ok : (ρ : List ℚ) (e : Ex) → ev_p ρ (norm ρ e) ≡ eval ρ e
unfolding norm
norm-ok ρ (var i) = var-ok ρ i
norm-ok ρ (con c) = con-ok ρ c
norm-ok ρ (a :+ b) = add_ok ρ (norm ρ a) (norm ρ b) ∙ ap₂ ◌+q◌ (norm-ok ρ a) (norm-ok ρ b)
norm-ok ρ (a :- b) = add_ok ρ (norm ρ a) (neg_p ρ (norm ρ b)) ∙ ap₂ ◌+q◌ (norm-ok ρ a) (neg-ok ρ (norm ρ b) ∙ ap negq (norm-ok ρ b))
norm-ok ρ (a :* b) = mul_ok ρ (norm ρ a) (norm ρ b) ∙ ap₂ ◌*q◌ (norm-ok ρ a) (norm-ok ρ b)
norm-ok ρ (ng a) = neg-ok ρ (norm ρ a) ∙ ap negq (norm-ok ρ a)

all_l-ok : {A : Type 0} (e : A → ℚ) (x : ℚ) (f : A → Bool) → ((a : A) → T (f a) → e a ≡ qn 0) → (p : List A) → T (all_l f p) → ev_l e x p ≡ qn 0
unfolding ev_l all_l
all_l-ok e x f h [] t = refl
all_l-ok e x f h (a ∷ p) t = ap₂ (λ u v. u +q x *q v) (h a (and_l (f a) (all_l f p) t)) (all_l-ok e x f h p (and_r (f a) (all_l f p) t)) ∙ one_more (qn 0) x

pub is_z-ok : (ρ : List ℚ) (p : Po ρ) → T (is_z ρ p) → ev_p ρ p ≡ qn 0
unfolding ev_p is_z
is_z-ok [] p t = let h = eqb→eq p.0 p.1 t in sound (omega arith)
is_z-ok (x ∷ ρ) p t = all_l-ok (ev_p ρ) x (is_z ρ) (is_z-ok ρ) p t

pub sub-zero : (a b : ℚ) → a -q b ≡ qn 0 → a ≡ b
sub-zero a b h = sym (+q-zero a) ∙ ap (λ z. a +q z) (sym (+q-neg b) ∙ +q-comm b (negq b)) ∙ sym (+q-assoc a (negq b) b) ∙ ap (λ z. z +q b) h ∙ zero-+q b

-- ---- the test
unfoldable pub same : List ℚ → Ex → Ex → Bool
unfolding norm is_z
same ρ a b = is_z ρ (norm ρ (a :- b))

pub ring : (ρ : List ℚ) (a b : Ex) → T (same ρ a b) → eval ρ a ≡ eval ρ b
unfolding same
ring ρ a b t = sub-zero (eval ρ a) (eval ρ b) (sym (norm-ok ρ (a :- b)) ∙ is_z-ok ρ (norm ρ (a :- b)) t)
