-- A quaternion turns and integrates as its normalized form does, so the code may normalize once where the Rust does at each call.
-- The conjugate normalizes to the conjugate: a quotient changes its sign with its numerator, a magnitude does not.
use Rattle.std.specs.Prelude.{Option, Some, None}
use Rattle.std.specs.Prelude.{◌≡◌, Bool, not, ◌*◌, eqb, Float}
use Rattle.std.proofs.Math.Path.{refl, ap}
use Rattle.std.proofs.Common.{◌∙◌}
use Rattle.std.proofs.Math.Bool.{true, false, cond}
use Rattle.std.specs.Float.{nan, inf, fin, binary64}
use Rattle.std.specs.Float.Ieee.{unlike, up, down, round, neg, div}
use Rattle.arith.specs.Real.{◌⊘◌, is_finite, abs_of}
use Rattle.arith.specs.Hypot.{hypot_of}
use Rattle.arith.specs.Laws.Rounding.{round-neg, unlike-neg}
use Rattle.vectors.specs.declared.vector.Vec3.{Vec3}
use Rattle.vectors.specs.declared.quaternion.Quat.{Quat}
use Rattle.vectors.specs.Vector.{finite_of, normalize_by}
use Rattle.vectors.specs.Quaternion.{conjugate_of, quat_try_normalize_of, rotated_by, rotate_vector_of, integrated, delta_in, integrate_of}
use Rattle.vectors.specs.Answered.{rotate_as_unit_of, integrate_as_unit_of}

-- ---- the sign goes through a quotient and is lost in a magnitude
neg-finite : (x : Float) → is_finite (neg x) ≡ is_finite x
unfolding is_finite neg
neg-finite nan = refl
neg-finite (inf s) = refl
neg-finite (fin s m e) = refl

neg-abs : (x : Float) → abs_of (neg x) ≡ abs_of x
unfolding abs_of neg
neg-abs nan = refl
neg-abs (inf s) = refl
neg-abs (fin s m e) = refl

neg-div : (x y : Float) → neg x ⊘ y ≡ neg (x ⊘ y)
unfolding div neg
neg-div nan y = refl
neg-div (inf s) nan = refl
neg-div (inf s) (inf t) = refl
neg-div (inf s) (fin t n d) = ap inf (unlike-neg s t)
neg-div (fin s m e) nan = refl
neg-div (fin s m e) (inf t) = rw unlike-neg
neg-div (fin s m e) (fin t n d) =
    let u = unlike-neg s t in
    let a = m * up e * down d in
    let b = n * up d * down e in
    by (eqb n 0) (eqb m 0) (unlike s t) _ u _ (ap (λ (s : Bool). round binary64 s a b) u ∙ round-neg binary64 (unlike s t) a b)
  where
    by : (a b u w : Bool) → w ≡ not u → {x : Float} (y : Float) → x ≡ neg y
        → cond a (cond b nan (inf w)) x ≡ neg (cond a (cond b nan (inf u)) y)
    by true true u w h y e = refl
    by true false u w h y e = ap inf h
    by false b u w h y e = e

neg-hypot : (x y : Float) → hypot_of (neg x) y ≡ hypot_of x y
unfolding hypot_of
neg-hypot x y = simp (neg-finite, neg-abs)

neg-hypot-second : (x y : Float) → hypot_of x (neg y) ≡ hypot_of x y
unfolding hypot_of
neg-hypot-second x y = simp (neg-finite, neg-abs)

-- ---- the conjugate
abbrev conjugated : Option Quat → Option Quat
conjugated (Some u) = Some (conjugate_of u)
conjugated None = None

conjugated-cond : (b : Bool) (o : Option Quat) → conjugated (cond b None o) ≡ cond b None (conjugated o)
conjugated-cond true o = refl
conjugated-cond false o = refl

conjugate-normalizes : (q : Quat) → quat_try_normalize_of (conjugate_of q) ≡ conjugated (quat_try_normalize_of q)
unfolding normalize_by
conjugate-normalizes q = simp (neg-finite, neg-abs, neg-div, neg-hypot, neg-hypot-second, conjugated-cond)

-- ---- a quaternion that normalizes to u
module _ (q : Quat) {u : Quat} (n : quat_try_normalize_of q ≡ Some u) where
  pub rotates-as-unit : (v : Vec3) → rotate_vector_of q v ≡ rotate_as_unit_of u v
  unfolding rotate_vector_of rotate_as_unit_of
  rotates-as-unit v = ap (λ (o : Option Quat). cond (not (finite_of v)) None (rotated_by v o)) n

  pub conjugate-unit : quat_try_normalize_of (conjugate_of q) ≡ Some (conjugate_of u)
  conjugate-unit = conjugate-normalizes q ∙ ap conjugated n

  pub integrates-as-unit : (velocity : Vec3) (dt : Float) → integrate_of q velocity dt ≡ integrate_as_unit_of u velocity dt
  unfolding integrate_of integrate_as_unit_of
  integrates-as-unit velocity dt = ap (integrated (delta_in velocity dt)) n

pub conjugate-rotates-as-unit : (q : Quat) {u : Quat} → quat_try_normalize_of q ≡ Some u → (v : Vec3)
    → rotate_vector_of (conjugate_of q) v ≡ rotate_as_unit_of (conjugate_of u) v
conjugate-rotates-as-unit q n = rotates-as-unit (conjugate_of q) (conjugate-unit q n)

-- ---- a quaternion that does not normalize
module _ (q : Quat) (n : quat_try_normalize_of q ≡ None) where
  pub no-unit-no-rotation : (v : Vec3) → rotate_vector_of q v ≡ None
  unfolding rotate_vector_of
  no-unit-no-rotation v = ap (λ (o : Option Quat). cond (not (finite_of v)) None (rotated_by v o)) n ∙ none (not (finite_of v))
    where
      none : (b : Bool) → ◌≡◌ {A = Option Vec3} (cond b None None) None
      none true = refl
      none false = refl

  pub conjugate-no-unit : quat_try_normalize_of (conjugate_of q) ≡ None
  conjugate-no-unit = conjugate-normalizes q ∙ ap conjugated n

pub conjugate-no-rotation : (q : Quat) → quat_try_normalize_of q ≡ None → (v : Vec3) → rotate_vector_of (conjugate_of q) v ≡ None
conjugate-no-rotation q n = no-unit-no-rotation (conjugate_of q) (conjugate-no-unit q n)
