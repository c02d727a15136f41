-- The laws of ℚ: an ordered commutative ring, with 1 / x for a positive x (`inv`). Everything after
-- this module goes by them alone. It passes on the definitions of `Fraction`.
use Rattle.std.specs.Prelude.{◌≡◌, refl, Bool, true, false, not, ◌&&◌, ℕ, suc, ◌+◌, ◌*◌, ◌≤◌, ◌<◌, T}
use Rattle.std.proofs.Common.{sym, ap, ap₂, ◌∙◌, subst, le_antisymm, le_of_mul-le-mul_right, mul-le-mul_right, zero-lt-suc, arith, leb→le}
use mathlib.Core.HLevel.{Π_prop, Σ_prop_path}
use mathlib.Core.Quot.{sound, ind}
use Rattle.std.proofs.Math.Nat.{le_dest}
use Rattle.std.specs.Float.Ieee.Fits.{and_i, and_l, and_r}
use Rattle.std.proofs.Math.Dec.{T_prop, nleb→lt}
pub use Rattle.exact.specs.Fraction.{Fr, Same, LeF, ℚ, mk, ℚ-set, add_f, mul_f, neg_f, whole, ◌-q◌, qn, iff→≡, same-le, same-ge, le-trans_f, leb_f}
pub use Rattle.exact.specs.Fraction.{le_in, le_out, ◌≤q◌, ◌<q◌, Near, tiny}
unfoldable pub use Rattle.exact.specs.Fraction.{lift₂, ◌+q◌, ◌*q◌, negq, leq}

-- ---- on representatives they compute
pub +q-mk : (a b : Fr) → mk a +q mk b ≡ mk (add_f a b)
unfolding ◌+q◌
+q-mk a b = refl

pub *q-mk : (a b : Fr) → mk a *q mk b ≡ mk (mul_f a b)
unfolding ◌*q◌
*q-mk a b = refl

pub negq-mk : (a : Fr) → negq (mk a) ≡ mk (neg_f a)
unfolding negq
negq-mk a = refl

-- ---- laws by representatives
pub indp : (β : ℚ → Type 0) → ((q : ℚ) → IsProp (β q)) → ((a : Fr) → β (mk a)) → (q : ℚ) → β q
indp β βP h q = ind {r = Same} βP h q

pub T→prop : (A : Type 0) (b : Bool) → IsProp (A → T b)
T→prop A b = Π_prop (λ t. T_prop b)

pub law₁ : (f g : ℚ → ℚ) → ((a : Fr) → f (mk a) ≡ g (mk a)) → (x : ℚ) → f x ≡ g x
law₁ f g h x = ind {r = Same} (λ q. ℚ-set (f q) (g q)) h x

pub law₂ : (f g : ℚ → ℚ → ℚ) → ((a b : Fr) → f (mk a) (mk b) ≡ g (mk a) (mk b)) → (x y : ℚ) → f x y ≡ g x y
law₂ f g h x y = ind {r = Same} (λ q. ℚ-set (f q y) (g q y)) (λ a. law₁ (f (mk a)) (g (mk a)) (h a) y) x

pub law₃ : (f g : ℚ → ℚ → ℚ → ℚ) → ((a b c : Fr) → f (mk a) (mk b) (mk c) ≡ g (mk a) (mk b) (mk c)) → (x y z : ℚ) → f x y z ≡ g x y z
law₃ f g h x y z = ind {r = Same} (λ q. ℚ-set (f q y z) (g q y z)) (λ a. law₂ (f (mk a)) (g (mk a)) (h a) y z) x

dist : (a b c e f g d2 d3 d1 : ℕ) → (a * (c * d3 + f * d2) + b * (e * d3 + g * d2)) * (d1 * d2 * (d1 * d3))
    ≡ ((a * c + b * e) * (d1 * d3) + (a * f + b * g) * (d1 * d2)) * (d1 * (d2 * d3))
dist a b c e f g d2 d3 d1 = omega arith

mul-add_f : (x y z : Fr) → Same (mul_f x (add_f y z)) (add_f (mul_f x y) (mul_f x z))
mul-add_f x y z =
    ap₂ ◌+◌ (dist x.p x.n y.p y.n z.p z.n y.d z.d x.d)
    (sym (dist x.p x.n y.n y.p z.n z.p y.d z.d x.d))

pub +q-assoc : (x y z : ℚ) → x +q y +q z ≡ x +q (y +q z)
unfolding ◌+q◌
+q-assoc = law₃ (λ x y z. x +q y +q z) (λ x y z. x +q (y +q z)) (λ a b c. sound (omega arith))

pub +q-comm : (x y : ℚ) → x +q y ≡ y +q x
unfolding ◌+q◌
+q-comm = law₂ (λ x y. x +q y) (λ x y. y +q x) (λ a b. sound (omega arith))

pub *q-assoc : (x y z : ℚ) → x *q y *q z ≡ x *q (y *q z)
unfolding ◌*q◌
*q-assoc = law₃ (λ x y z. x *q y *q z) (λ x y z. x *q (y *q z)) (λ a b c. sound (omega arith))

pub *q-comm : (x y : ℚ) → x *q y ≡ y *q x
unfolding ◌*q◌
*q-comm = law₂ (λ x y. x *q y) (λ x y. y *q x) (λ a b. sound (omega arith))

pub *q-add : (x y z : ℚ) → x *q (y +q z) ≡ x *q y +q x *q z
unfolding ◌+q◌ ◌*q◌
*q-add = law₃ (λ x y z. x *q (y +q z)) (λ x y z. x *q y +q x *q z) (λ a b c. sound (mul-add_f a b c))

pub +q-zero : (x : ℚ) → x +q qn 0 ≡ x
unfolding ◌+q◌
+q-zero = law₁ (λ x. x +q qn 0) (λ x. x) (λ a. sound (omega arith))

pub +q-neg : (x : ℚ) → x +q negq x ≡ qn 0
unfolding ◌+q◌ negq
+q-neg = law₁ (λ x. x +q negq x) (λ x. qn 0) (λ a. sound (omega arith))

pub *q-one : (x : ℚ) → x *q qn 1 ≡ x
unfolding ◌*q◌
*q-one = law₁ (λ x. x *q qn 1) (λ x. x) (λ a. sound (omega arith))

pub ≤-mk : (a b : Fr) → LeF a b → mk a ≤q mk b
unfolding leq
≤-mk a b h = le_in a b h

pub mk-≤ : (a b : Fr) → mk a ≤q mk b → LeF a b
unfolding leq
mk-≤ a b h = le_out a b h

pub ≤q-refl : (x : ℚ) → x ≤q x
≤q-refl = ind {r = Same} (λ q. T_prop (leq q q)) (λ a. ≤-mk a a (omega arith))

imp₂ : (P Q : ℚ → ℚ → Bool) → ((a b : Fr) → T (P (mk a) (mk b)) → T (Q (mk a) (mk b))) → (x y : ℚ) → T (P x y) → T (Q x y)
imp₂ P Q h x y =
    indp (λ q. T (P q y) → T (Q q y)) (λ q. T→prop (T (P q y)) (Q q y))
    (λ a. indp (λ q. T (P (mk a) q) → T (Q (mk a) q)) (λ q. T→prop (T (P (mk a) q)) (Q (mk a) q)) (λ b. h a b) y) x

trans-mk : (a b c : Fr) → T (leq (mk a) (mk b) && leq (mk b) (mk c)) → mk a ≤q mk c
trans-mk a b c t =
    let ab = leq (mk a) (mk b) in let bc = leq (mk b) (mk c) in
    ≤-mk a c (le-trans_f a b c (mk-≤ a b (and_l ab bc t)) (mk-≤ b c (and_r ab bc t)))

pub ≤q-trans : (x y z : ℚ) → x ≤q y → y ≤q z → x ≤q z
≤q-trans x y z h k =
    indp (λ q. T (leq x q && leq q z) → x ≤q z) (λ q. T→prop (T (leq x q && leq q z)) (leq x z))
    (λ b. imp₂ (λ x z. leq x (mk b) && leq (mk b) z) leq (λ a c. trans-mk a b c) x z) y (and_i (leq x y) (leq y z) h k)

antisymm-mk : (a b : Fr) → T (leq (mk a) (mk b) && leq (mk b) (mk a)) → mk a ≡ mk b
antisymm-mk a b t =
    let ab = leq (mk a) (mk b) in let ba = leq (mk b) (mk a) in
    sound (le_antisymm (mk-≤ a b (and_l ab ba t)) (mk-≤ b a (and_r ab ba t)))

pub ≤q-antisymm : (x y : ℚ) → x ≤q y → y ≤q x → x ≡ y
≤q-antisymm x y h k =
    indp (λ x. T (leq x y && leq y x) → x ≡ y) (λ q. →prop q y)
    (λ a. indp (λ y. T (leq (mk a) y && leq y (mk a)) → mk a ≡ y) (λ q. →prop (mk a) q) (antisymm-mk a) y) x (and_i (leq x y) (leq y x) h k)
  where
    →prop : (x y : ℚ) → IsProp (T (leq x y && leq y x) → x ≡ y)
    →prop x y = Π_prop (λ t. ℚ-set x y)

other_way : (a b : Fr) → T (not (leq (mk a) (mk b))) → LeF b a
unfolding leq
other_way a b t = let h = nleb→lt (a.p * b.d + b.n * a.d) (b.p * a.d + a.n * b.d) t in omega arith

pub ≤q-total : (x y : ℚ) → T (not (leq x y)) → y ≤q x
≤q-total = imp₂ (λ x y. not (leq x y)) (λ x y. leq y x) (λ a b t. ≤-mk b a (other_way a b t))

-- x ≤ y exactly where y - x is not negative
sub-mk : (a b : Fr) → mk a ≤q mk b → qn 0 ≤q mk b -q mk a
unfolding ◌+q◌ negq
sub-mk a b t = ≤-mk (whole 0 0) (add_f b (neg_f a)) (omega (arith, mk-≤ a b t))

pub ≤q-sub : (x y : ℚ) → x ≤q y → qn 0 ≤q y -q x
≤q-sub = imp₂ leq (λ x y. leq (qn 0) (y -q x)) sub-mk

mk-sub : (a b : Fr) → qn 0 ≤q mk b -q mk a → mk a ≤q mk b
unfolding ◌+q◌ negq
mk-sub a b t = ≤-mk a b (omega (arith, mk-≤ (whole 0 0) (add_f b (neg_f a)) t))

pub sub-≤q : (x y : ℚ) → qn 0 ≤q y -q x → x ≤q y
sub-≤q = imp₂ (λ x y. leq (qn 0) (y -q x)) leq mk-sub

-- sums and products of what is not negative
nn-add : (a b : Fr) → LeF (whole 0 0) a → LeF (whole 0 0) b → LeF (whole 0 0) (add_f a b)
nn-add a b h k = omega (arith, mul-le-mul_right b.d h, mul-le-mul_right a.d k)

nn-mul : (a b : Fr) → LeF (whole 0 0) a → LeF (whole 0 0) b → LeF (whole 0 0) (mul_f a b)
nn-mul a b h k =
    let h' : a.n ≤ a.p = omega arith in
    let k' : b.n ≤ b.p = omega arith in
    let u = le_dest h' in let v = le_dest k' in
    let w : a.p * b.n + a.n * b.p ≤ a.p * b.p + a.n * b.n = subst (λ (x : ℕ). x * b.n + a.n * b.p ≤ x * b.p + a.n * b.n) u.1
    (subst (λ (x : ℕ). (a.n + u.0) * b.n + a.n * x ≤ (a.n + u.0) * x + a.n * b.n) v.1 (omega arith)) in
    omega arith

add-mk-nn : (a b : Fr) → T (leq (qn 0) (mk a) && leq (qn 0) (mk b)) → qn 0 ≤q mk a +q mk b
unfolding ◌+q◌
add-mk-nn a b t =
    ≤-mk (whole 0 0) (add_f a b) (nn-add a b (mk-≤ (whole 0 0) a (and_l (leq (qn 0) (mk a)) (leq (qn 0) (mk b)) t))
    (mk-≤ (whole 0 0) b (and_r (leq (qn 0) (mk a)) (leq (qn 0) (mk b)) t)))

pub 0≤-add : (x y : ℚ) → qn 0 ≤q x → qn 0 ≤q y → qn 0 ≤q x +q y
0≤-add x y h k = imp₂ (λ x y. leq (qn 0) x && leq (qn 0) y) (λ x y. leq (qn 0) (x +q y)) add-mk-nn x y (and_i (leq (qn 0) x) (leq (qn 0) y) h k)

mul-mk-nn : (a b : Fr) → T (leq (qn 0) (mk a) && leq (qn 0) (mk b)) → qn 0 ≤q mk a *q mk b
unfolding ◌*q◌
mul-mk-nn a b t =
    ≤-mk (whole 0 0) (mul_f a b) (nn-mul a b (mk-≤ (whole 0 0) a (and_l (leq (qn 0) (mk a)) (leq (qn 0) (mk b)) t))
    (mk-≤ (whole 0 0) b (and_r (leq (qn 0) (mk a)) (leq (qn 0) (mk b)) t)))

pub 0≤-mul : (x y : ℚ) → qn 0 ≤q x → qn 0 ≤q y → qn 0 ≤q x *q y
0≤-mul x y h k = imp₂ (λ x y. leq (qn 0) x && leq (qn 0) y) (λ x y. leq (qn 0) (x *q y)) mul-mk-nn x y (and_i (leq (qn 0) x) (leq (qn 0) y) h k)

pub +q-left-comm : (x y z : ℚ) → x +q (y +q z) ≡ y +q (x +q z)
+q-left-comm x y z = sym (+q-assoc x y z) ∙ ap (λ w. w +q z) (+q-comm x y) ∙ +q-assoc y x z

pub *q-left-comm : (x y z : ℚ) → x *q (y *q z) ≡ y *q (x *q z)
*q-left-comm x y z = sym (*q-assoc x y z) ∙ ap (λ w. w *q z) (*q-comm x y) ∙ *q-assoc y x z

pub add-*q : (x y z : ℚ) → (x +q y) *q z ≡ x *q z +q y *q z
add-*q x y z = *q-comm (x +q y) z ∙ *q-add z x y ∙ ap₂ ◌+q◌ (*q-comm z x) (*q-comm z y)

pub *q-zero : (x : ℚ) → x *q qn 0 ≡ qn 0
unfolding ◌*q◌
*q-zero = law₁ (λ x. x *q qn 0) (λ x. qn 0) (λ a. sound (omega arith))

pub neg-add : (x y : ℚ) → negq (x +q y) ≡ negq x +q negq y
unfolding ◌+q◌ negq
neg-add = law₂ (λ x y. negq (x +q y)) (λ x y. negq x +q negq y) (λ a b. sound (omega arith))

pub *q-neg : (x y : ℚ) → x *q negq y ≡ negq (x *q y)
unfolding ◌*q◌ negq
*q-neg = law₂ (λ x y. x *q negq y) (λ x y. negq (x *q y)) (λ a b. sound (omega arith))

pub neg-zero : negq (qn 0) ≡ qn 0
unfolding negq
neg-zero = refl

-- ---- 1 / x for a positive x (0 for any other)
uniq : (x y z : ℚ) → x *q y ≡ qn 1 → x *q z ≡ qn 1 → y ≡ z
uniq x y z a b = sym (*q-one y) ∙ ap (λ w. y *q w) (sym b) ∙ sym (*q-assoc y x z) ∙ ap (λ w. w *q z) (*q-comm y x ∙ a) ∙ *q-comm (qn 1) z ∙ *q-one z

abbrev Recip : ℚ → Type 0
Recip x = (y : ℚ) × (x *q y ≡ qn 1)

recip-prop : (x : ℚ) → IsProp (Recip x)
recip-prop x u v = Σ_prop_path (λ y. ℚ-set (x *q y) (qn 1)) (uniq x u.0 v.0 u.1 v.1)

recip_f : (a : Fr) → T (not (leq (mk a) (qn 0))) → Recip (mk a)
unfolding leq ◌*q◌
recip_f a t =
    let h = nleb→lt (a.p * 1 + 0 * a.d) (0 * a.d + a.n * 1) t in
    let l : a.n < a.p = omega arith in
    let k = le_dest l in
    (mk (record { p = a.d; n = 0; d = suc k.0; dp = zero-lt-suc k.0 }), sound (omega (arith, ap (λ (x : ℕ). x * a.d) k.1)))

recip : (x : ℚ) → T (not (leq x (qn 0))) → Recip x
recip = indp (λ x. T (not (leq x (qn 0))) → Recip x) (λ x. Π_prop (λ t. recip-prop x)) recip_f

pick : (b : Bool) → (T (not b) → ℚ) → ℚ
pick true f = qn 0
pick false f = f tt

pub inv : ℚ → ℚ
unfolding pick
inv x = pick (leq x (qn 0)) (λ t. (recip x t).0)

pub inv-ok : (x : ℚ) → T (not (leq x (qn 0))) → x *q inv x ≡ qn 1
unfolding pick inv
inv-ok x t = go (leq x (qn 0)) (recip x) t
  where
    go : (b : Bool) (f : T (not b) → Recip x) → T (not b) → x *q pick b (λ t. (f t).0) ≡ qn 1
    go true f u = absurd u
    go false f u = (f tt).1

cancel-ℕ : (n k p m : ℕ) → (n + suc k) * m + n * p ≤ n * m + (n + suc k) * p → m ≤ p
cancel-ℕ n k p m h = le_of_mul-le-mul_right (omega arith) (zero-lt-suc k)

cancel_f : (a b : Fr) → T (not (leq (mk a) (qn 0))) → qn 0 ≤q mk a *q mk b → qn 0 ≤q mk b
unfolding leq ◌*q◌
cancel_f a b t u =
    let h = nleb→lt (a.p * 1 + 0 * a.d) (0 * a.d + a.n * 1) t in
    let l : a.n < a.p = omega arith in
    let k = le_dest l in
    let v = leb→le (0 * (a.d * b.d) + (a.p * b.n + a.n * b.p) * 1) ((a.p * b.p + a.n * b.n) * 1 + 0 * (a.d * b.d)) u in
    let e : a.n + suc k.0 ≡ a.p = omega (arith, k.1) in
    let w : a.p * b.n + a.n * b.p ≤ a.n * b.n + a.p * b.p = omega arith in
    ≤-mk (whole 0 0) b
    (omega (arith, cancel-ℕ a.n k.0 b.p b.n (subst (λ (x : ℕ). x * b.n + a.n * b.p ≤ a.n * b.n + x * b.p) (sym e) w)))

-- what a positive factor times gives a number that is not negative is not negative
pub cancel-nn : (x y : ℚ) → T (not (leq x (qn 0))) → qn 0 ≤q x *q y → qn 0 ≤q y
cancel-nn x y h k = imp₂ (λ x y. not (leq x (qn 0)) && leq (qn 0) (x *q y)) (λ x y. leq (qn 0) y) can x y (and_i (not (leq x (qn 0))) (leq (qn 0) (x *q y)) h k)
  where
    can : (a b : Fr) → T (not (leq (mk a) (qn 0)) && leq (qn 0) (mk a *q mk b)) → qn 0 ≤q mk b
    can a b t = cancel_f a b (and_l (not (leq (mk a) (qn 0))) (leq (qn 0) (mk a *q mk b)) t) (and_r (not (leq (mk a) (qn 0))) (leq (qn 0) (mk a *q mk b)) t)
