-- Float comparisons of finite values are the order of ℚ.
use Rattle.std.specs.Prelude.{◌≡◌, refl, Bool, true, false, not, ◌&&◌, ◌||◌, ℕ, ◌+◌, ◌*◌, ◌≤◌, ◌<◌, T, leb, ltb, eqb, Float, ◌⊎◌}
use Rattle.std.proofs.Common.{sym, ap, ◌∙◌, arith, leb→le, le→leb, ltb→lt, lt→ltb, eqb→eq, inl, inr, eq-or-lt_of_le, eq-zero-or-pos}
use Rattle.std.proofs.Math.Dec.{nleb→lt}
use Rattle.std.proofs.Math.Arith.{lt→nleb}
use Rattle.std.specs.Float.{nan, inf, fin}
use Rattle.std.specs.Float.Ieee.{up, down, lt, le}
use Rattle.std.specs.Float.Ieee.Fits.{eq→eqb, and_i, and_l, and_r}
use Rattle.std.specs.Float.Ieee.Scale.{finite}
use Rattle.exact.specs.Rat.{leq, iff→≡}
use Rattle.exact.specs.Val.{val}

-- a < b, and a ≤ b, where x and y are other ways to write a and b
lt-is : (a b x y : ℕ) → (a < b → x < y) → (x < y → a < b) → ltb a b ≡ not (leb y x)
lt-is a b x y f g = iff→≡ (ltb a b) (not (leb y x)) (λ t. lt→nleb y x (f (ltb→lt a b t))) (λ t. lt→ltb a b (g (nleb→lt y x t)))

never : (x y : ℕ) → y ≤ x → false ≡ not (leb y x)
never x y h = iff→≡ false (not (leb y x)) (λ t. absurd t) (λ t. omega (arith, nleb→lt y x t))

pub lt_val : (x y : Float) → T (finite x) → T (finite y) → lt x y ≡ not (leq (val y) (val x))
unfolding lt leq
lt_val nan y p q = absurd p
lt_val (inf s) y p q = absurd p
lt_val (fin s m e) nan p q = absurd q
lt_val (fin s m e) (inf t) p q = absurd q
lt_val (fin false m e) (fin false n d) p q =
    lt-is (m * up e * down d) (n * up d * down e) (m * up e * down d + 0 * down e)
    (n * up d * down e + 0 * down d) (λ h. omega arith) (λ h. omega arith)
lt_val (fin false m e) (fin true n d) p q = never (m * up e * down d + n * up d * down e) (0 * down e + 0 * down d) (omega arith)
lt_val (fin true m e) (fin false n d) p q =
    lt-is 0 (m * up e * down d + n * up d * down e) (0 * down d + 0 * down e)
    (n * up d * down e + m * up e * down d) (λ h. omega arith) (λ h. omega arith)
lt_val (fin true m e) (fin true n d) p q =
    lt-is (n * up d * down e) (m * up e * down d) (0 * down d + n * up d * down e)
    (0 * down e + m * up e * down d) (λ h. omega arith) (λ h. omega arith)

-- ---- ≤
or-out : (a b : Bool) → T (a || b) → T a ⊎ T b
or-out true b t = inl tt
or-out false b t = inr t

or-in : (a b : Bool) → T a ⊎ T b → T (a || b)
or-in true b t = tt
or-in false b (inl t) = absurd t
or-in false b (inr t) = t

-- a < b or a = b
le_is : (a b x y : ℕ) → (a ≤ b → x ≤ y) → (x ≤ y → a ≤ b) → (ltb a b || (eqb a b && true)) ≡ leb x y
le_is a b x y f g =
    iff→≡ (ltb a b || (eqb a b && true)) (leb x y) (λ t. le→leb x y (f (into (or-out (ltb a b) (eqb a b && true) t))))
    (λ t. or-in (ltb a b) (eqb a b && true) (out (eq-or-lt_of_le (g (leb→le x y t)))))
  where
    into : T (ltb a b) ⊎ T (eqb a b && true) → a ≤ b
    into (inl t) = omega (arith, ltb→lt a b t)
    into (inr t) = omega (arith, eqb→eq a b (and_l (eqb a b) true t))

    out : (a ≡ b) ⊎ (a < b) → T (ltb a b) ⊎ T (eqb a b && true)
    out (inl e) = inr (and_i (eqb a b) true (eq→eqb e) tt)
    out (inr h) = inl (lt→ltb a b h)

-- a ≤ -b only where both are 0
zeros : (a b x y : ℕ) → x ≡ a + b → y ≡ 0 → (eqb a b && eqb a 0) ≡ leb x y
zeros a b x y e z =
    iff→≡ (eqb a b && eqb a 0) (leb x y) (λ t. le→leb x y (f (eqb→eq a b (and_l (eqb a b) (eqb a 0) t)) (eqb→eq a 0 (and_r (eqb a b) (eqb a 0) t))))
    (λ t. let h = leb→le x y t in and_i (eqb a b) (eqb a 0) (eq→eqb (g h)) (eq→eqb (g' h)))
  where
    f : a ≡ b → a ≡ 0 → x ≤ y
    f p q = omega arith

    g : x ≤ y → a ≡ b
    g h = omega arith

    g' : x ≤ y → a ≡ 0
    g' h = omega arith

-- -a ≤ b always
always : (a b x y : ℕ) → x ≤ y → (ltb 0 (a + b) || (eqb a b && eqb a 0)) ≡ leb x y
always a b x y h =
    iff→≡ (ltb 0 (a + b) || (eqb a b && eqb a 0)) (leb x y) (λ t. le→leb x y h)
    (λ t. or-in (ltb 0 (a + b)) (eqb a b && eqb a 0) (go (eq-zero-or-pos (a + b))))
  where
    e₁ : a + b ≡ 0 → a ≡ b
    e₁ h = omega arith

    e₂ : a + b ≡ 0 → a ≡ 0
    e₂ h = omega arith

    go : (a + b ≡ 0) ⊎ (0 < a + b) → T (ltb 0 (a + b)) ⊎ T (eqb a b && eqb a 0)
    go (inl z) = inr (and_i (eqb a b) (eqb a 0) (eq→eqb (e₁ z)) (eq→eqb (e₂ z)))
    go (inr p) = inl (lt→ltb 0 (a + b) p)

-- -a ≤ -b where b ≤ a
flip : (a b x y : ℕ) → (b ≤ a → x ≤ y) → (x ≤ y → b ≤ a) → (ltb b a || (eqb a b && true)) ≡ leb x y
flip a b x y f g = ap (λ (e : Bool). ltb b a || (e && true)) turned ∙ le_is b a x y f g
  where
    turned : eqb a b ≡ eqb b a
    turned = iff→≡ (eqb a b) (eqb b a) (λ t. eq→eqb (sym (eqb→eq a b t))) (λ t. eq→eqb (sym (eqb→eq b a t)))

pub le_val : (x y : Float) → T (finite x) → T (finite y) → le x y ≡ leq (val x) (val y)
unfolding le leq
le_val nan y p q = absurd p
le_val (inf s) y p q = absurd p
le_val (fin s m e) nan p q = absurd q
le_val (fin s m e) (inf t) p q = absurd q
le_val (fin false m e) (fin false n d) p q =
    le_is (m * up e * down d) (n * up d * down e) (m * up e * down d + 0 * down e)
    (n * up d * down e + 0 * down d) (λ h. omega arith) (λ h. omega arith)
le_val (fin false m e) (fin true n d) p q =
    zeros (m * up e * down d) (n * up d * down e) (m * up e * down d + n * up d * down e) (0 * down e + 0 * down d) refl (omega arith)
le_val (fin true m e) (fin false n d) p q =
    always (m * up e * down d) (n * up d * down e) (0 * down d + 0 * down e) (n * up d * down e + m * up e * down d) (omega arith)
le_val (fin true m e) (fin true n d) p q =
    flip (m * up e * down d) (n * up d * down e) (0 * down d + n * up d * down e)
    (0 * down e + m * up e * down d) (λ h. omega arith) (λ h. omega arith)
