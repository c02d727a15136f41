-- What passed refusal 9: the numbers of a kind are finite, and the joint is one of the table.
use Rattle.std.specs.Prelude.{◌≡◌, ◌⊎◌, Bool, true, false, ◌&&◌, ◌||◌, List, ℕ, ◌≤◌, ◌<◌, T, length, Float}
use Rattle.std.proofs.Common.{sym, ap, ◌∙◌, subst, inl, inr, arith}
use Rattle.std.proofs.Math.ListN.{get_or-eq_default}
use Rattle.std.specs.Float.{nan, inf, fin}
use Rattle.std.specs.Float.Ieee.{of_bits, round, neg, eq, le}
use Rattle.std.specs.Float.Ieee.Fits.{and_i}
use Rattle.std.specs.Float.Ieee.Scale.{finite}
use Rattle.arith.specs.Real.{ratio, is_finite, abs_of}
use Rattle.arith.specs.Angle.{PI}
use Rattle.arith.specs.Laws.Magnitude.{finite-same}
use Rattle.vectors.specs.Laws.Tests.{both, abs-limit}
use Rattle.vectors.specs.Vector.{vec}
use Rattle.vectors.specs.Quaternion.{quat}
use Rattle.rows.specs.declared.geometry.JointFrame.{JointFrame}
use Rattle.rows.specs.declared.geometry.Joint.{Joint}
use Rattle.rows.specs.declared.geometry.Kind.TheVariants.{Ball}
use Rattle.rows.specs.declared.geometry.Cone.{Cone}
use Rattle.rows.specs.declared.geometry.Turning.{Turning}
use Rattle.rows.specs.declared.geometry.Turning.TheVariants as Turns
use Rattle.rows.specs.declared.geometry.Motions.{Motions}
use Rattle.rows.specs.declared.geometry.Motions.TheVariants.{Rod, Frame}
use Rattle.rows.specs.ExactGeometry.{turning_finite, motions_finite}
use Rattle.rows.specs.Laws.Rods.{length-in}
use Rattle.step.specs.Checks.{swing_ok, twist_ok, cone_ok, turning_ok, motions_ok, joint_ok, joint_in}

-- ---- the numbers of a kind
tested : (x : Float) → T (finite x) → T (is_finite x)
tested x t = subst T (sym (finite-same x)) t

eq-finite : (x y : Float) → T (finite y) → T (eq x y) → T (is_finite x)
unfolding eq is_finite
eq-finite nan y f t = absurd t
eq-finite (inf s) nan f t = absurd f
eq-finite (inf s) (inf r) f t = absurd f
eq-finite (inf s) (fin r n d) f t = absurd t
eq-finite (fin s m e) y f t = tt

limits-finite : T (finite (ratio 0 1)) × T (finite PI) × T (finite (ratio 4 1))
unfolding round of_bits
limits-finite = (tt, tt, tt)

either : (a b : Bool) → T (a || b) → T a ⊎ T b
either true b t = inl tt
either false b t = inr t

swing-finite : (swing : Float) → T (swing_ok swing) → T (is_finite swing)
swing-finite swing t = by (either (eq swing (ratio 0 1)) (eq swing PI) t)
  where
    by : T (eq swing (ratio 0 1)) ⊎ T (eq swing PI) → T (is_finite swing)
    by (inl e) = eq-finite swing (ratio 0 1) limits-finite.0 e
    by (inr e) = eq-finite swing PI limits-finite.1 e

twist-finite : (lower upper : Float) → T (twist_ok lower upper) → T (is_finite lower) × T (is_finite upper)
twist-finite lower upper t =
    let l = le (abs_of lower) (ratio 4 1) in
    let u = le (abs_of upper) (ratio 4 1) in
    let p = both l u (both (l && u) (eq lower upper || le lower (neg PI) && le PI upper) t).0 in
    (tested lower (abs-limit lower (ratio 4 1) limits-finite.2 p.0).0, tested upper (abs-limit upper (ratio 4 1) limits-finite.2 p.1).0)

cone-finite : (cone : Cone) → T (cone_ok cone) → T (turning_finite (Turns.Cone cone))
cone-finite cone t =
    let x = cone.swing_x in
    let y = cone.swing_y in
    let lower = cone.twist_lower in
    let upper = cone.twist_upper in
    let p = both (swing_ok x && swing_ok y) (twist_ok lower upper) t in
    let s = both (swing_ok x) (swing_ok y) p.0 in
    let w = twist-finite lower upper p.1 in
    let xy = and_i (is_finite x) (is_finite y) (swing-finite x s.0) (swing-finite y s.1) in
    and_i (is_finite x && is_finite y && is_finite lower) (is_finite upper) (and_i (is_finite x && is_finite y) (is_finite lower) xy w.0) w.1

turning-finite : (turning : Turning) → T (turning_ok turning) → T (turning_finite turning)
turning-finite Turns.Free t = tt
turning-finite Turns.Align t = tt
turning-finite (Turns.Cone cone) t = cone-finite cone t

pub motions-finite : (motions : Motions) → T (motions_ok motions) → T (motions_finite motions)
motions-finite (Rod length) t = tested length (length-in length t).0
motions-finite (Frame _ turning) t = turning-finite turning t

-- ---- the table's end
abbrev no_joint : Joint
no_joint =
    let frame : JointFrame = record { local_anchor = vec nan nan nan; local_rotation = quat nan nan nan nan } in
    record { body_a = 0; body_b = 0; frame_a = frame; frame_b = frame; kind = Ball }

past-end-refused : joint_ok no_joint ≡ true → ⊥
unfolding is_finite
past-end-refused e = subst T (sym e) tt

at_most : (m n : ℕ) → (n < m → ⊥) → m ≤ n
at_most m n h = omega arith

pub within-table : (joints : List Joint) (count : ℕ) → ((k : ℕ) → k < count → joint_ok (joint_in joints k) ≡ true) → count ≤ length joints
within-table joints count ok = at_most count (length joints) (λ l. past-end-refused (sym (ap joint_ok past) ∙ ok (length joints) l))
  where
    past : joint_in joints (length joints) ≡ no_joint
    past = get_or-eq_default joints no_joint (omega arith)
