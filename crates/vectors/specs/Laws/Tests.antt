-- What the tests on doubles say of their values: finiteness, equality, a magnitude at most a limit, the larger of two.
use Rattle.std.specs.Prelude.{◌≡◌, refl, ◌⊎◌, [], ◌∷◌, Bool, true, false, not, cond, ◌||◌, ℕ, ◌*◌, ◌<◌, T, eqb}
use Rattle.std.proofs.Common.{sym, ap, ◌∙◌, subst, inl, inr, arith, eqb→eq}
use mathlib.Core.Quot.{sound}
use lib.Ieee.{Float, nan, inf, fin, up, down, lt, le, eq}
use Rattle.std.specs.Float.Ieee.Fits.{down_pos, and_l, and_r}
use Rattle.std.specs.Float.Ieee.Scale.{finite}
use Rattle.exact.specs.Rat.{ℚ, qn, leq, ◌+q◌, ◌-q◌, negq, ◌≤q◌, ≤q-sub, 0≤-add}
use Rattle.exact.specs.Ring.{var, ◌:+◌, ◌:-◌, ng, same, ring}
use Rattle.exact.specs.Abs.{iv, 0≤, Abs, T_not}
use Rattle.exact.specs.Val.{val, sg}
use Rattle.exact.specs.Compare.{lt_val, le_val}
use Rattle.arith.specs.Real.{is_finite, abs_of, max_of}
pub use Rattle.arith.specs.Laws.AtanTests.{both}
use Rattle.arith.specs.Laws.Magnitude.{finite-same, abs-nn}

pub finite-of : (x : Float) → T (is_finite x) → T (finite x)
finite-of x t = subst T (finite-same x) t

pub clash : (b : Bool) → T (not b) → T b → ⊥
clash true n t = n
clash false n t = t

either : (a b : Bool) → T (a || b) → T a ⊎ T b
either true b t = inl tt
either false b t = inr t

-- ---- x == y
level-val : (s t : Bool) (a c b d : ℕ) (C : 0 < c) (D : 0 < d) → a * d ≡ b * c → T (elim s [ true ↦ t | false ↦ not t ]) ⊎ (a * d ≡ 0) → sg s a c C ≡ sg t b d D
level-val false false a c b d C D e o = sound (omega arith)
level-val true true a c b d C D e o = sound (omega arith)
level-val false true a c b d C D e (inl o) = absurd o
level-val false true a c b d C D e (inr z) = sound (omega arith)
level-val true false a c b d C D e (inl o) = absurd o
level-val true false a c b d C D e (inr z) = sound (omega arith)

pub eq_val : (x y : Float) → T (finite x) → T (eq x y) → T (finite y) × (val x ≡ val y)
unfolding eq
eq_val nan y p t = absurd p
eq_val (inf s) y p t = absurd p
eq_val (fin s m e) nan p t = absurd t
eq_val (fin s m e) (inf r) p t = absurd t
eq_val (fin s m e) (fin r n d) p t = (tt, go s r (m * up e * down d) (n * up d * down e) refl refl t)
  where
    go : (s r : Bool) (a b : ℕ) → a ≡ m * up e * down d → b ≡ n * up d * down e → T (lib.Ieee.level s a r b)
        → sg s (m * up e) (down e) (down_pos e) ≡ sg r (n * up d) (down d) (down_pos d)
    go false false a b p q t =
        level-val false false (m * up e) (down e) (n * up d) (down d) (down_pos e)
        (down_pos d) (sym p ∙ eqb→eq a b (and_l (eqb a b) true t) ∙ q) (inl tt)
    go true true a b p q t =
        level-val true true (m * up e) (down e) (n * up d) (down d) (down_pos e)
        (down_pos d) (sym p ∙ eqb→eq a b (and_l (eqb a b) true t) ∙ q) (inl tt)
    go false true a b p q t =
        level-val false true (m * up e) (down e) (n * up d) (down d) (down_pos e) (down_pos d)
        (sym p ∙ eqb→eq a b (and_l (eqb a b) (eqb a 0) t) ∙ q) (inr (sym p ∙ eqb→eq a 0 (and_r (eqb a b) (eqb a 0) t)))
    go true false a b p q t =
        level-val true false (m * up e) (down e) (n * up d) (down d) (down_pos e) (down_pos d)
        (sym p ∙ eqb→eq a b (and_l (eqb a b) (eqb a 0) t) ∙ q) (inr (sym p ∙ eqb→eq a 0 (and_r (eqb a b) (eqb a 0) t)))

-- a value that is not below 0, and does not compare equal to z = 0, is above 0
pub above_zero : (x z : Float) → val z ≡ qn 0 → T (finite x) → T (finite z) → 0≤ (val x) → T (not (eq x z)) → T (not (leq (val x) (qn 0)))
unfolding le
above_zero x z e p q h n = T_not (leq (val x) (qn 0)) (λ t. no (either (lt x z) (eq x z) (subst T (sym (le_val x z p q ∙ ap (λ v. leq (val x) v) e)) t)))
  where
    no : T (lt x z) ⊎ T (eq x z) → ⊥
    no (inl t) = clash (leq (qn 0) (val x)) (subst T (lt_val x z p q ∙ ap (λ v. not (leq v (val x))) e) t) h
    no (inr t) = clash (eq x z) n t

-- ---- |x| <= y
limit : (v w : ℚ) → 0≤ v → v ≤q w → 0≤ (w -q v) × 0≤ (w +q v)
unfolding same
limit v w p h =
    let d = ≤q-sub v w h in
    (d, subst 0≤ (ring (v ∷ w ∷ []) (var 1 :- var 0 :+ (var 0 :+ var 0)) (var 1 :+ var 0) tt) (0≤-add (w -q v) (v +q v) d (0≤-add v v p p)))

minus : (v w : ℚ) → 0≤ (w -q v) × 0≤ (w +q v) → 0≤ (w -q negq v) × 0≤ (w +q negq v)
unfolding same
minus v w h = (subst 0≤ (ring (v ∷ w ∷ []) (var 1 :+ var 0) (var 1 :- ng (var 0)) tt) h.1, h.0)

-- |x| is at most w
pub abs-under : (x : Float) (w : ℚ) → val (abs_of x) ≤q w → 0≤ (w -q val x) × 0≤ (w +q val x)
unfolding abs_of negq
abs-under nan w h = limit (qn 0) w (abs-nn nan) h
abs-under (inf s) w h = limit (qn 0) w (abs-nn nan) h
abs-under (fin false m e) w h = limit (val (fin false m e)) w (abs-nn (fin false m e)) h
abs-under (fin true m e) w h = minus (val (fin false m e)) w (limit (val (fin false m e)) w (abs-nn (fin false m e)) h)

pub abs-limit : (x y : Float) → T (finite y) → T (le (abs_of x) y) → T (finite x) × (0≤ (val y -q val x) × 0≤ (val y +q val x))
unfolding le lt eq abs_of
abs-limit nan y q t = absurd t
abs-limit (inf s) nan q t = absurd q
abs-limit (inf s) (inf r) q t = absurd q
abs-limit (inf s) (fin r n d) q t = absurd t
abs-limit (fin s m e) nan q t = absurd q
abs-limit (fin s m e) (inf r) q t = absurd q
abs-limit (fin s m e) (fin r n d) q t = (tt, abs-under (fin s m e) (val (fin r n d)) (subst T (le_val (fin false m e) (fin r n d) tt tt) t))

-- the limit in units of 1 / U
pub abs-within : (x y : Float) (n : ℕ) → T (finite y) → val y ≡ iv n → T (le (abs_of x) y) → T (finite x) × Abs (val x) n
abs-within x y n q e t = let h = abs-limit x y q t in (h.0, subst (λ w. 0≤ (w -q val x) × 0≤ (w +q val x)) e h.1)

-- ---- the larger of two is one of them
pub max-keeps : (P : Float → Type 0) (a b : Float) → P a → P b → P (max_of a b)
max-keeps P a b p q = go (lt a b)
  where
    go : (c : Bool) → P (cond c b a)
    go true = q
    go false = p

-- ---- a <= x <= b: x is finite
pub finite-between : (a x b : Float) → T (finite a) → T (finite b) → T (le a x) → T (le x b) → T (finite x)
unfolding le lt eq
finite-between nan x b p q s t = absurd p
finite-between (inf r) x b p q s t = absurd p
finite-between (fin r n d) nan b p q s t = absurd t
finite-between (fin r n d) (inf true) b p q s t = absurd s
finite-between (fin r n d) (inf false) nan p q s t = absurd q
finite-between (fin r n d) (inf false) (inf o) p q s t = absurd q
finite-between (fin r n d) (inf false) (fin o l f) p q s t = absurd t
finite-between (fin r n d) (fin u m e) b p q s t = tt
