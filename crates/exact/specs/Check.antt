-- A test that bounds the error of a float computation. `chk β e` computes, from bounds β on the variables, a bound m on the
-- exact value of e, a bound err on the distance of the float value from it (both in units of 1 / U), and whether every step was
-- in range. `sound` says that the bounds hold.
use Rattle.std.specs.Prelude.{◌≡◌, refl, List, [], ◌∷◌, Bool, true, false, ◌&&◌, ℕ, zero, suc, ◌+◌, ◌-◌, ◌*◌, ◌/◌, ◌≤◌, ◌<◌, T, leb, ltb, Float}
use Rattle.std.proofs.Common.{sym, ap, ap₂, ◌∙◌, subst, mul-le-mul_right, arith, leb→le, ltb→lt}
use Rattle.std.proofs.Math.Nat.{lt-div-mul-add}
use Rattle.std.specs.Float.{nan, inf, fin, binary64}
use Rattle.std.specs.Float.Ieee.{up, down, add, sub, mul, div}
use Rattle.std.specs.Float.Ieee.Fits.{down_pos, and_l, and_r}
use Rattle.std.specs.Float.Ieee.Scale.{finite}
use Rattle.exact.specs.Rat.{ℚ, Fr, mk, qn, whole, add_f, neg_f, ◌+q◌, ◌-q◌, ◌*q◌, negq, ◌≤q◌, ≤-mk, inv, inv-ok, +q-mk, negq-mk, ≤q-sub, sub-≤q, 0≤-add}
use Rattle.exact.specs.Ring.{var, con, ◌:+◌, ◌:-◌, ◌:*◌, at, same, ring}
use Rattle.exact.specs.Abs.{U, iv, iv_f, 0≤, Abs, mul_up, div_up, abs-eq, abs-add, abs-sub, abs-mul, abs-div, positive, iv-add}
use Rattle.exact.specs.RingQ.{Rx, rv, rat, ◌⊕◌, ◌⊖◌, ◌⊗◌, ev_r}
use Rattle.exact.specs.Val.{val, sg_f, rnd, huge, Result, add-err, sub-err, mul-err, div-err}

infixl 65 ◌+f◌ ◌-f◌
infixl 70 ◌*f◌
pub data Fx : Type 0 where
  fv : ℕ → Fx
  fc : Float → Fr → Fx  -- a constant, and the number that it is to stand for
  ◌+f◌ ◌-f◌ ◌*f◌ : Fx → Fx → Fx
  fdiv : ℕ → Fx → Fx → Fx  -- a / b, where b is at least l / U
  cap : ℕ → Fx → Fx  -- the same number, of which it is known that it is at most m / U

abbrev pub at_f : List Float → ℕ → Float
at_f [] i = nan
at_f (x ∷ ρ) zero = x
at_f (x ∷ ρ) (suc i) = at_f ρ i

-- the float computation, and the exact one
abbrev pub run : List Float → Fx → Float
run ρ (fv i) = at_f ρ i
run ρ (fc c q) = c
run ρ (a +f b) = add binary64 (run ρ a) (run ρ b)
run ρ (a -f b) = sub binary64 (run ρ a) (run ρ b)
run ρ (a *f b) = mul binary64 (run ρ a) (run ρ b)
run ρ (fdiv l a b) = div binary64 (run ρ a) (run ρ b)
run ρ (cap m a) = run ρ a

abbrev pub exact : List ℚ → Fx → ℚ
exact σ (fv i) = at σ i
exact σ (fc c q) = mk q
exact σ (a +f b) = exact σ a +q exact σ b
exact σ (a -f b) = exact σ a -q exact σ b
exact σ (a *f b) = exact σ a *q exact σ b
exact σ (fdiv l a b) = exact σ a *q inv (exact σ b)
exact σ (cap m a) = exact σ a

-- what has to be known besides: each divisor's lower bound, and each `cap`
abbrev pub Known : List ℚ → Fx → Type 0
Known σ (fv i) = Unit {0}
Known σ (fc c q) = Unit {0}
Known σ (a +f b) = Known σ a × Known σ b
Known σ (a -f b) = Known σ a × Known σ b
Known σ (a *f b) = Known σ a × Known σ b
Known σ (fdiv l a b) = Known σ a × Known σ b × (iv l ≤q exact σ b)
Known σ (cap m a) = Known σ a × Abs (exact σ a) m

-- ---- the test
pub data Bd : Type 0 where
  bd : ℕ → ℕ → Bool → Bd

abbrev pub mag : Bd → ℕ
mag (bd m e o) = m

abbrev pub err : Bd → ℕ
err (bd m e o) = e

abbrev pub ok : Bd → Bool
ok (bd m e o) = o

-- a bound on a fraction
unfoldable pub abs_up : Fr → ℕ
abs_up x = ((x.p - x.n) + (x.n - x.p)) * U / x.d + 1

val_f : Float → Fr
val_f nan = whole 0 0
val_f (inf s) = whole 0 0
val_f (fin s m e) = sg_f s (m * up e) (down e) (down_pos e)

limit : ℕ → Bool
limit f = leb f (U * huge)

rounded : ℕ → ℕ → ℕ → Bool → Bd
unfolding limit
rounded m e f o = bd m (e + rnd f) (o && limit f)

add_b : Bd → Bd → Bd
unfolding rounded
add_b (bd m e o) (bd n d p) = rounded (m + n) (e + d) (m + n + (e + d)) (o && p)

mul_b : Bd → Bd → Bd
unfolding rounded
mul_b (bd m e o) (bd n d p) = rounded (mul_up m n) (mul_up (m + e) d + mul_up e n) (mul_up (m + e) (n + d)) (o && p)

div_b : ℕ → Bd → Bd → Bd
unfolding rounded
div_b l (bd m e o) (bd n d p) =
    let q = div_up m l in let w = div_up (e + mul_up q d) (l - d) in
    rounded q w (q + w) (o && p && ltb d l)

cap_b : ℕ → Bd → Bd
cap_b k (bd m e o) = bd k e o

var_b : List (ℕ × ℕ) → ℕ → Bd
var_b [] i = bd 0 0 false
var_b (b ∷ β) zero = bd b.0 b.1 true
var_b (b ∷ β) (suc i) = var_b β i

unfoldable pub chk : List (ℕ × ℕ) → Fx → Bd
unfolding add_b mul_b div_b cap_b var_b abs_up val_f U
chk β (fv i) = var_b β i
chk β (fc c q) = bd (abs_up q) (abs_up (add_f (val_f c) (neg_f q))) (finite c)
chk β (a +f b) = add_b (chk β a) (chk β b)
chk β (a -f b) = add_b (chk β a) (chk β b)
chk β (a *f b) = mul_b (chk β a) (chk β b)
chk β (fdiv l a b) = div_b l (chk β a) (chk β b)
chk β (cap m a) = cap_b m (chk β a)

-- ---- that it is sound
abbrev pub Rel : Float → ℚ → Bd → Type 0
Rel f x b = T (finite f) × Abs x (mag b) × Abs (val f -q x) (err b)

abbrev pub Good : List Float → List ℚ → List (ℕ × ℕ) → Type 0
Good ρ σ [] = Unit {0}
Good [] σ (b ∷ β) = ⊥
Good (f ∷ ρ) [] (b ∷ β) = ⊥
Good (f ∷ ρ) (x ∷ σ) (b ∷ β) = (T (finite f) × Abs x b.0 × Abs (val f -q x) b.1) × Good ρ σ β

-- a float's own magnitude
pub own : (f x : ℚ) (m e : ℕ) → Abs x m → Abs (f -q x) e → Abs f (m + e)
unfolding same
own f x m e h k = abs-eq (x +q (f -q x)) f (m + e) (ring (f ∷ x ∷ []) (var 1 :+ (var 0 :- var 1)) (var 0) tt) (abs-add x (f -q x) m e h k)

split : (a b : Bool) → T (a && b) → T a × T b
split a b t = (and_l a b t, and_r a b t)

-- from the float operation's own rounding error to the whole error
finish : (z : Float) (v x : ℚ) (m e f : ℕ) (o : Bool) → Abs x m → Abs (v -q x) e → T (o && limit f) → (f ≤ U * huge → Result z v f) → Rel z x (rounded m e f o)
unfolding rounded limit same
finish z v x m e f o h k t r =
    let s = split o (limit f) t in
    let w = r (leb→le f (U * huge) s.1) in (
      w.0,
      h,
      abs-eq ((v -q x) +q (val z -q v)) (val z -q x) (e + rnd f)
          (ring (val z ∷ v ∷ x ∷ []) ((var 1 :- var 2) :+ (var 0 :- var 1)) (var 0 :- var 2) tt) (abs-add (v -q x) (val z -q v) e (rnd f) k w.1),
    )

add-rel : (f g : Float) (x y : ℚ) (a b : Bd) → T (ok (add_b a b)) → (T (ok a) → Rel f x a) → (T (ok b) → Rel g y b)
    → Rel (add binary64 f g) (x +q y) (add_b a b)
unfolding add_b rounded same
add-rel f g x y (bd m e o) (bd n d p) t ha hb =
    let s = split (o && p) (limit (m + n + (e + d))) t in let s' = split o p s.0 in
    let A = ha s'.0 in let B = hb s'.1 in let ρ = val f ∷ val g ∷ x ∷ y ∷ [] in
    let D = abs-eq ((val f -q x) +q (val g -q y)) (val f +q val g -q (x +q y)) (e + d)
    (ring ρ ((var 0 :- var 2) :+ (var 1 :- var 3)) (var 0 :+ var 1 :- (var 2 :+ var 3)) tt) (abs-add (val f -q x) (val g -q y) e d A.2 B.2) in
    let X = abs-add x y m n A.1 B.1 in
    finish (add binary64 f g) (val f +q val g) (x +q y) (m + n) (e + d) (m + n + (e + d)) (o && p) X D t
    (add-err f g (m + n + (e + d)) A.0 B.0 (own (val f +q val g) (x +q y) (m + n) (e + d) X D))

sub-rel : (f g : Float) (x y : ℚ) (a b : Bd) → T (ok (add_b a b)) → (T (ok a) → Rel f x a) → (T (ok b) → Rel g y b)
    → Rel (sub binary64 f g) (x -q y) (add_b a b)
unfolding add_b rounded same
sub-rel f g x y (bd m e o) (bd n d p) t ha hb =
    let s = split (o && p) (limit (m + n + (e + d))) t in let s' = split o p s.0 in
    let A = ha s'.0 in let B = hb s'.1 in let ρ = val f ∷ val g ∷ x ∷ y ∷ [] in
    let D = abs-eq ((val f -q x) -q (val g -q y)) (val f -q val g -q (x -q y)) (e + d)
    (ring ρ ((var 0 :- var 2) :- (var 1 :- var 3)) (var 0 :- var 1 :- (var 2 :- var 3)) tt) (abs-sub (val f -q x) (val g -q y) e d A.2 B.2) in
    let X = abs-sub x y m n A.1 B.1 in
    finish (sub binary64 f g) (val f -q val g) (x -q y) (m + n) (e + d) (m + n + (e + d)) (o && p) X D t
    (sub-err f g (m + n + (e + d)) A.0 B.0 (own (val f -q val g) (x -q y) (m + n) (e + d) X D))

mul-rel : (f g : Float) (x y : ℚ) (a b : Bd) → T (ok (mul_b a b)) → (T (ok a) → Rel f x a) → (T (ok b) → Rel g y b)
    → Rel (mul binary64 f g) (x *q y) (mul_b a b)
unfolding mul_b rounded same
mul-rel f g x y (bd m e o) (bd n d p) t ha hb =
    let F = mul_up (m + e) (n + d) in let E = mul_up (m + e) d + mul_up e n in
    let s = split (o && p) (limit F) t in let s' = split o p s.0 in
    let A = ha s'.0 in let B = hb s'.1 in let ρ = val f ∷ val g ∷ x ∷ y ∷ [] in
    let Fa = own (val f) x m e A.1 A.2 in let Ga = own (val g) y n d B.1 B.2 in
    let D = abs-eq (val f *q (val g -q y) +q (val f -q x) *q y) (val f *q val g -q x *q y) E
    (ring ρ (var 0 :* (var 1 :- var 3) :+ (var 0 :- var 2) :* var 3) (var 0 :* var 1 :- var 2 :* var 3) tt)
    (abs-add (val f *q (val g -q y)) ((val f -q x) *q y) (mul_up (m + e) d) (mul_up e n)
    (abs-mul (val f) (val g -q y) (m + e) d Fa B.2) (abs-mul (val f -q x) y e n A.2 B.1)) in
    finish (mul binary64 f g) (val f *q val g) (x *q y) (mul_up m n) E F (o && p) (abs-mul x y m n A.1 B.1) D t
    (mul-err f g F A.0 B.0 (abs-mul (val f) (val g) (m + e) (n + d) Fa Ga))

-- g ≥ (l - d) / U where y ≥ l / U and |g - y| ≤ d / U
lower : (g y : ℚ) (l d : ℕ) → d < l → iv l ≤q y → Abs (g -q y) d → iv (l - d) ≤q g
unfolding same
lower g y l d h k a =
    let e : iv l ≡ iv (l - d) +q iv d = ap iv (omega arith) ∙ iv-add (l - d) d in
    let s = ≤q-sub (iv l) y k in let u = 0≤-add (y -q iv l) (iv d +q (g -q y)) s a.1 in
    sub-≤q (iv (l - d)) g (subst 0≤ (ap (λ z. y -q z +q (iv d +q (g -q y))) e
    ∙ ring (g ∷ y ∷ iv (l - d) ∷ iv d ∷ []) (var 1 :- (var 2 :+ var 3) :+ (var 3 :+ (var 0 :- var 1))) (var 0 :- var 2) tt) u)

gap : (d l : ℕ) → d < l → 0 < l - d
gap d l h = omega arith

above : (d l : ℕ) → d < l → 0 < l
above d l h = omega arith

-- f / g - x / y = ((f - x) - (x / y) (g - y)) / g
quotients : (f g x y i j : ℚ) → g *q i ≡ qn 1 → y *q j ≡ qn 1 → ((f -q x) -q (x *q j) *q (g -q y)) *q i ≡ f *q i -q x *q j
unfolding same
quotients f g x y i j a b =
    let ρ = f ∷ g ∷ x ∷ y ∷ i ∷ j ∷ [] in
    let F = var 0 in let G = var 1 in let X = var 2 in let Y = var 3 in let I = var 4 in let J = var 5 in
    ring ρ (((F :- X) :- (X :* J) :* (G :- Y)) :* I) (F :* I :- X :* J :* (G :* I) :+ X :* I :* (Y :* J) :- X :* I) tt
    ∙ ap₂ (λ u v. f *q i -q x *q j *q u +q x *q i *q v -q x *q i) a b
    ∙ ring ρ (F :* I :- X :* J :* con 1 :+ X :* I :* con 1 :- X :* I) (F :* I :- X :* J) tt

div-rel : (l : ℕ) (f g : Float) (x y : ℚ) (a b : Bd) → T (ok (div_b l a b)) → iv l ≤q y
    → (T (ok a) → Rel f x a) → (T (ok b) → Rel g y b) → Rel (div binary64 f g) (x *q inv y) (div_b l a b)
unfolding div_b rounded
div-rel l f g x y (bd m e o) (bd n d p) t k ha hb =
    let q = div_up m l in let w = div_up (e + mul_up q d) (l - d) in
    let s = split (o && p && ltb d l) (limit (q + w)) t in
    let s' = split (o && p) (ltb d l) s.0 in let s'' = split o p s'.0 in
    let dl = ltb→lt d l s'.1 in let lp = above d l dl in
    let A = ha s''.0 in let B = hb s''.1 in let gl = lower (val g) y l d dl k B.2 in
    let gp = positive (val g) (l - d) (gap d l dl) gl in let yp = positive y l lp k in
    let Q = abs-div x y m l lp A.1 k in
    let N = abs-sub (val f -q x) ((x *q inv y) *q (val g -q y)) e (mul_up q d) A.2 (abs-mul (x *q inv y) (val g -q y) q d Q B.2) in
    let D = abs-eq (((val f -q x) -q (x *q inv y) *q (val g -q y)) *q inv (val g)) (val f *q inv (val g) -q x *q inv y) w
    (quotients (val f) (val g) x y (inv (val g)) (inv y) (inv-ok (val g) gp) (inv-ok y yp))
    (abs-div ((val f -q x) -q (x *q inv y) *q (val g -q y)) (val g) (e + mul_up q d) (l - d) (gap d l dl) N gl) in
    finish (div binary64 f g) (val f *q inv (val g)) (x *q inv y) q w (q + w) (o && p && ltb d l) Q D t
    (div-err f g (q + w) A.0 B.0 gp (own (val f *q inv (val g)) (x *q inv y) q w Q D))

cap-rel : (f : Float) (x : ℚ) (k : ℕ) (b : Bd) → T (ok (cap_b k b)) → Abs x k → (T (ok b) → Rel f x b) → Rel f x (cap_b k b)
unfolding cap_b
cap-rel f x k (bd m e o) t h r = let A = r t in (A.0, h, A.2)

var-rel : (ρ : List Float) (σ : List ℚ) (β : List (ℕ × ℕ)) → Good ρ σ β → (i : ℕ) → T (ok (var_b β i)) → Rel (at_f ρ i) (at σ i) (var_b β i)
unfolding var_b
var-rel ρ σ [] g i t = absurd t
var-rel [] σ (b ∷ β) g i t = absurd g
var-rel (f ∷ ρ) [] (b ∷ β) g i t = absurd g
var-rel (f ∷ ρ) (x ∷ σ) (b ∷ β) g zero t = g.0
var-rel (f ∷ ρ) (x ∷ σ) (b ∷ β) g (suc i) t = var-rel ρ σ β g.1 i t

pub abs_up-ok : (x : Fr) → Abs (mk x) (abs_up x)
unfolding abs_up iv ◌+q◌ negq
abs_up-ok x = (
  ≤-mk (whole 0 0) (add_f (iv_f (abs_up x)) (neg_f x)) (core₁ x.p x.n x.d U c h),
  ≤-mk (whole 0 0) (add_f (iv_f (abs_up x)) x) (core₂ x.p x.n x.d U c h),
)
  where
    c : ℕ
    c = ((x.p - x.n) + (x.n - x.p)) * U / x.d

    h : ((x.p - x.n) + (x.n - x.p)) * U < c * x.d + x.d
    h = lt-div-mul-add x.dp

    core₁ : (p n d u c : ℕ) → ((p - n) + (n - p)) * u < c * d + d → 0 * (u * d) + (0 * d + p * u) * 1 ≤ ((c + 1) * d + n * u) * 1 + 0 * (u * d)
    core₁ p n d u c h = go ((p - n) + (n - p)) h (mul-le-mul_right u (omega arith))
      where
        go : (k : ℕ) → k * u < c * d + d → p * u ≤ (n + k) * u → 0 * (u * d) + (0 * d + p * u) * 1 ≤ ((c + 1) * d + n * u) * 1 + 0 * (u * d)
        go k h l = omega arith

    core₂ : (p n d u c : ℕ) → ((p - n) + (n - p)) * u < c * d + d → 0 * (u * d) + (0 * d + n * u) * 1 ≤ ((c + 1) * d + p * u) * 1 + 0 * (u * d)
    core₂ p n d u c h = go ((p - n) + (n - p)) h (mul-le-mul_right u (omega arith))
      where
        go : (k : ℕ) → k * u < c * d + d → n * u ≤ (p + k) * u → 0 * (u * d) + (0 * d + n * u) * 1 ≤ ((c + 1) * d + p * u) * 1 + 0 * (u * d)
        go k h l = omega arith

val_f-ok : (c : Float) → mk (val_f c) ≡ val c
unfolding val_f
val_f-ok nan = refl
val_f-ok (inf s) = refl
val_f-ok (fin s m e) = refl

con-rel : (c : Float) (q : Fr) → T (finite c) → Rel c (mk q) (bd (abs_up q) (abs_up (add_f (val_f c) (neg_f q))) (finite c))
con-rel c q t = (
  t,
  abs_up-ok q,
  abs-eq (mk (add_f (val_f c) (neg_f q))) (val c -q mk q) (abs_up (add_f (val_f c) (neg_f q))) (sym (ap (λ z. z -q mk q) (sym (val_f-ok c))
      ∙ ap (λ z. mk (val_f c) +q z) (negq-mk q) ∙ +q-mk (val_f c) (neg_f q))) (abs_up-ok (add_f (val_f c) (neg_f q))),
)

pub sound : (ρ : List Float) (σ : List ℚ) (β : List (ℕ × ℕ)) → Good ρ σ β → (e : Fx) → Known σ e → T (ok (chk β e)) → Rel (run ρ e) (exact σ e) (chk β e)
unfolding chk
sound ρ σ β g (fv i) k t = var-rel ρ σ β g i t
sound ρ σ β g (fc c q) k t = con-rel c q t
sound ρ σ β g (a +f b) k t = add-rel (run ρ a) (run ρ b) (exact σ a) (exact σ b) (chk β a) (chk β b) t (sound ρ σ β g a k.0) (sound ρ σ β g b k.1)
sound ρ σ β g (a -f b) k t = sub-rel (run ρ a) (run ρ b) (exact σ a) (exact σ b) (chk β a) (chk β b) t (sound ρ σ β g a k.0) (sound ρ σ β g b k.1)
sound ρ σ β g (a *f b) k t = mul-rel (run ρ a) (run ρ b) (exact σ a) (exact σ b) (chk β a) (chk β b) t (sound ρ σ β g a k.0) (sound ρ σ β g b k.1)
sound ρ σ β g (fdiv l a b) k t =
    div-rel l (run ρ a) (run ρ b) (exact σ a) (exact σ b) (chk β a) (chk β b) t k.2 (sound ρ σ β g a k.0) (sound ρ σ β g b k.1)
sound ρ σ β g (cap m a) k t = cap-rel (run ρ a) (exact σ a) m (chk β a) t k.1 (sound ρ σ β g a k.0)

-- ---- an expression with no quotient is a polynomial
unfoldable pub to_r : Fx → Rx
to_r (fv i) = rv i
to_r (fc c q) = rat q
to_r (a +f b) = to_r a ⊕ to_r b
to_r (a -f b) = to_r a ⊖ to_r b
to_r (a *f b) = to_r a ⊗ to_r b
to_r (fdiv l a b) = to_r a
to_r (cap m a) = to_r a

unfoldable pub plain : Fx → Bool
plain (fv i) = true
plain (fc c q) = true
plain (a +f b) = plain a && plain b
plain (a -f b) = plain a && plain b
plain (a *f b) = plain a && plain b
plain (fdiv l a b) = false
plain (cap m a) = plain a

pub to_r-ok : (σ : List ℚ) (e : Fx) → T (plain e) → ev_r σ (to_r e) ≡ exact σ e
unfolding to_r plain
to_r-ok σ (fv i) t = refl
to_r-ok σ (fc c q) t = refl
to_r-ok σ (a +f b) t = let s = split (plain a) (plain b) t in ap₂ ◌+q◌ (to_r-ok σ a s.0) (to_r-ok σ b s.1)
to_r-ok σ (a -f b) t = let s = split (plain a) (plain b) t in ap₂ ◌-q◌ (to_r-ok σ a s.0) (to_r-ok σ b s.1)
to_r-ok σ (a *f b) t = let s = split (plain a) (plain b) t in ap₂ ◌*q◌ (to_r-ok σ a s.0) (to_r-ok σ b s.1)
to_r-ok σ (fdiv l a b) t = absurd t
to_r-ok σ (cap m a) t = to_r-ok σ a t

-- no `cap` and no quotient: nothing has to be known
unfoldable pub free : Fx → Bool
free (fv i) = true
free (fc c q) = true
free (a +f b) = free a && free b
free (a -f b) = free a && free b
free (a *f b) = free a && free b
free (fdiv l a b) = false
free (cap m a) = false

pub known : (σ : List ℚ) (e : Fx) → T (free e) → Known σ e
unfolding free
known σ (fv i) t = tt
known σ (fc c q) t = tt
known σ (a +f b) t = let s = split (free a) (free b) t in (known σ a s.0, known σ b s.1)
known σ (a -f b) t = let s = split (free a) (free b) t in (known σ a s.0, known σ b s.1)
known σ (a *f b) t = let s = split (free a) (free b) t in (known σ a s.0, known σ b s.1)
known σ (fdiv l a b) t = absurd t
known σ (cap m a) t = absurd t
