-- A rotation that passes refusal 6's test, and the product of two, in doubles: near the exact ones, whose squares sum to nearly 1.
use Rattle.std.specs.Prelude.{◌≡◌, List, [], ◌∷◌, ℕ, ◌^◌, T, leb, Float}
use Rattle.std.proofs.Common.{sym, ◌∙◌, subst, leb→le}
use Rattle.std.specs.Float.Ieee.Scale.{finite}
use Rattle.exact.specs.Rat.{ℚ, qn, ◌+q◌, ◌-q◌, ◌*q◌}
use Rattle.exact.specs.Abs.{U, Abs, abs-eq, abs-mono}
use Rattle.exact.specs.RingQ.{rv, ◌⊕◌, ◌⊖◌, ◌⊗◌, same_q, ring_q}
use Rattle.exact.specs.Cert.{nat, bounds, bound}
use Rattle.exact.specs.Val.{val}
use Rattle.exact.specs.Check.{Fx, fv, ◌+f◌, ◌-f◌, ◌*f◌, run, exact, err, ok, chk, Good, sound, free, known}
use Rattle.exact.specs.Given.{given}
use Rattle.vectors.specs.declared.quaternion.Quat.{Quat}
use Rattle.vectors.specs.Quaternion.{product_of}
use Rattle.vectors.specs.Laws.Fractions.{norm, norm_r}
use Rattle.vectors.specs.Laws.Turn.{f_err, n_err, g_max, component, round-names, last-first, NearUnit}
use Rattle.vectors.specs.Laws.UnitTest.{UnitQuat}

-- ---- the exact product of (x, y, z, w) and (a, b, c, d)
abbrev pub times_x : ℚ → ℚ → ℚ → ℚ → ℚ → ℚ → ℚ → ℚ → ℚ
times_x x y z w a b c d = w *q a +q x *q d +q y *q c -q z *q b

abbrev pub times_y : ℚ → ℚ → ℚ → ℚ → ℚ → ℚ → ℚ → ℚ → ℚ
times_y x y z w a b c d = w *q b -q x *q c +q y *q d +q z *q a

abbrev pub times_z : ℚ → ℚ → ℚ → ℚ → ℚ → ℚ → ℚ → ℚ → ℚ
times_z x y z w a b c d = w *q c +q x *q b -q y *q a +q z *q d

abbrev pub times_w : ℚ → ℚ → ℚ → ℚ → ℚ → ℚ → ℚ → ℚ → ℚ
times_w x y z w a b c d = w *q d -q x *q a -q y *q b -q z *q c

-- the sum of its squares is the product of the two sums
norm-times : (x y z w a b c d : ℚ)
    → norm (times_x x y z w a b c d) (times_y x y z w a b c d) (times_z x y z w a b c d) (times_w x y z w a b c d) ≡ norm x y z w *q norm a b c d
unfolding same_q
norm-times x y z w a b c d =
    let X = rv 0 in let Y = rv 1 in let Z = rv 2 in let W = rv 3 in let A = rv 4 in let B = rv 5 in let C = rv 6 in let D = rv 7 in
    ring_q (x ∷ y ∷ z ∷ w ∷ a ∷ b ∷ c ∷ d ∷ [])
    (norm_r (W ⊗ A ⊕ X ⊗ D ⊕ Y ⊗ C ⊖ Z ⊗ B) (W ⊗ B ⊖ X ⊗ C ⊕ Y ⊗ D ⊕ Z ⊗ A) (W ⊗ C ⊕ X ⊗ B ⊖ Y ⊗ A ⊕ Z ⊗ D) (W ⊗ D ⊖ X ⊗ A ⊖ Y ⊗ B ⊖ Z ⊗ C))
    (norm_r X Y Z W ⊗ norm_r A B C D) tt

one-times : (n k : ℚ) → Abs (n -q qn 1) (2 ^ 214) → Abs (k -q qn 1) (2 ^ 214) → Abs (n *q k -q qn 1) n_err
unfolding same_q bounds
one-times n k h j =
    abs-eq ((n -q qn 1) *q (k -q qn 1) +q (n -q qn 1) +q (k -q qn 1)) (n *q k -q qn 1) n_err
    (ring_q (n ∷ k ∷ []) ((rv 0 ⊖ nat 1) ⊗ (rv 1 ⊖ nat 1) ⊕ (rv 0 ⊖ nat 1) ⊕ (rv 1 ⊖ nat 1)) (rv 0 ⊗ rv 1 ⊖ nat 1) tt)
    (bound ((n -q qn 1) ∷ (k -q qn 1) ∷ []) (2 ^ 214 ∷ 2 ^ 214 ∷ []) (h, (j, tt)) (rv 0 ⊗ rv 1 ⊕ rv 0 ⊕ rv 1) n_err tt)

-- ---- one rotation: its components are at most 1 + 2 ^ -40, and it stands for itself
pub record Components (q : Quat) : Type 0 where
  pub x-top : Abs (val q.x) g_max
  pub y-top : Abs (val q.y) g_max
  pub z-top : Abs (val q.z) g_max
  pub w-top : Abs (val q.w) g_max

wider : (n : ℚ) → Abs (n -q qn 1) (2 ^ 214) → Abs (n -q qn 1) n_err
wider n h = abs-mono (n -q qn 1) (2 ^ 214) n_err (leb→le (2 ^ 214) n_err tt) h

pub components : (q : Quat) → UnitQuat q → Components q
components q Q =
    let x = val q.x in
    let y = val q.y in
    let z = val q.z in
    let w = val q.w in
    let h = wider (norm x y z w) Q.size in
    let P : ℚ → Type 0 = λ n. Abs (n -q qn 1) n_err in
    record {
      x-top = component x y z w h;
      y-top = component y z x w (subst P (round-names x y z w) h);
      z-top = component z x y w (subst P (round-names x y z w ∙ round-names y z x w) h);
      w-top = component w y z x (subst P (last-first x y z w) h);
    }

itself : (f : Float) → T (finite f) → Abs (val f) g_max → Abs (val f -q val f) f_err
itself f p h = abs-mono (val f -q val f) 0 f_err (leb→le 0 f_err tt) (given f g_max (p, h)).2

pub own-near : (q : Quat) → UnitQuat q → NearUnit q (val q.x) (val q.y) (val q.z) (val q.w)
own-near q Q =
    let C = components q Q in
    record {
      x-near = itself q.x Q.fine-x C.x-top;
      y-near = itself q.y Q.fine-y C.y-top;
      z-near = itself q.z Q.fine-z C.z-top;
      w-near = itself q.w Q.fine-w C.w-top;
      size = wider (norm (val q.x) (val q.y) (val q.z) (val q.w)) Q.size;
    }

-- ---- the product
productβ : List (ℕ × ℕ)
productβ =
    let b : ℕ × ℕ = (g_max, 0) in
    b ∷ b ∷ b ∷ b ∷ b ∷ b ∷ b ∷ b ∷ []

x_e : Fx
x_e = fv 3 *f fv 4 +f fv 0 *f fv 7 +f fv 1 *f fv 6 -f fv 2 *f fv 5

y_e : Fx
y_e = fv 3 *f fv 5 -f fv 0 *f fv 6 +f fv 1 *f fv 7 +f fv 2 *f fv 4

z_e : Fx
z_e = fv 3 *f fv 6 +f fv 0 *f fv 5 -f fv 1 *f fv 4 +f fv 2 *f fv 7

w_e : Fx
w_e = fv 3 *f fv 7 -f fv 0 *f fv 4 -f fv 1 *f fv 5 -f fv 2 *f fv 6

pub product-near : (q p : Quat) → UnitQuat q → UnitQuat p
    → NearUnit (product_of q p) (times_x (val q.x) (val q.y) (val q.z) (val q.w) (val p.x) (val p.y) (val p.z) (val p.w))
    (times_y (val q.x) (val q.y) (val q.z) (val q.w) (val p.x) (val p.y) (val p.z) (val p.w))
    (times_z (val q.x) (val q.y) (val q.z) (val q.w) (val p.x) (val p.y) (val p.z) (val p.w))
    (times_w (val q.x) (val q.y) (val q.z) (val q.w) (val p.x) (val p.y) (val p.z) (val p.w))
unfolding productβ x_e y_e z_e w_e chk free U
product-near q p Q P =
    let C = components q Q in
    let D = components p P in
    let ρ = q.x ∷ q.y ∷ q.z ∷ q.w ∷ p.x ∷ p.y ∷ p.z ∷ p.w ∷ [] in
    let σ = val q.x ∷ val q.y ∷ val q.z ∷ val q.w ∷ val p.x ∷ val p.y ∷ val p.z ∷ val p.w ∷ [] in
    let g : Good ρ σ productβ = (
      given q.x g_max (Q.fine-x, C.x-top),
      (
        given q.y g_max (Q.fine-y, C.y-top),
        (
          given q.z g_max (Q.fine-z, C.z-top),
          (
            given q.w g_max (Q.fine-w, C.w-top),
            (
              given p.x g_max (P.fine-x, D.x-top),
              (given p.y g_max (P.fine-y, D.y-top), (given p.z g_max (P.fine-z, D.z-top), (given p.w g_max (P.fine-w, D.w-top), tt))),
            ),
          ),
        ),
      ),
    ) in
    let near : (e : Fx) → T (free e) → T (ok (chk productβ e)) → T (leb (err (chk productβ e)) f_err) → Abs (val (run ρ e) -q exact σ e) f_err =
    λ e f o l. abs-mono (val (run ρ e) -q exact σ e) (err (chk productβ e)) f_err
    (leb→le (err (chk productβ e)) f_err l) (sound ρ σ productβ g e (known σ e f) o).2 in
    record {
      x-near = near x_e tt tt tt;
      y-near = near y_e tt tt tt;
      z-near = near z_e tt tt tt;
      w-near = near w_e tt tt tt;
      size = subst (λ n. Abs (n -q qn 1) n_err)
          (sym (norm-times (val q.x) (val q.y) (val q.z) (val q.w) (val p.x) (val p.y) (val p.z) (val p.w)))
          (one-times (norm (val q.x) (val q.y) (val q.z) (val q.w))
          (norm (val p.x) (val p.y) (val p.z) (val p.w)) Q.size P.size);
    }
