-- The rotation law: `rotate_vector_of f v` is within 2 ^ -44 of the exact turn of v by the
-- exact quaternion that f is near, for v of at most 1, and in proportion.
use Rattle.std.specs.Prelude.{Some}
use Rattle.std.specs.Prelude.{◌≡◌, ◌&&◌, ℕ, ◌+◌, ◌*◌, ◌^◌, T}
use Rattle.std.proofs.Common.{subst}
use Rattle.std.specs.Float.Ieee.Scale.{finite}
use Rattle.exact.specs.Rat.{ℚ, qn, leq, ◌+q◌, ◌-q◌, ◌*q◌, negq, inv, inv-ok}
use Rattle.exact.specs.Abs.{U, iv, Abs}
use Rattle.exact.specs.Val.{val}
use Rattle.exact.specs.Given.{Input}
use Rattle.arith.specs.Real.{is_finite}
use Rattle.vectors.specs.declared.vector.Vec3.{Vec3}
use Rattle.vectors.specs.declared.quaternion.Quat.{Quat}
use Rattle.vectors.specs.Vector.{finite_of}
use Rattle.vectors.specs.Quaternion.{rotate_vector_of}
use Rattle.vectors.specs.Laws.Tests.{finite-of, both}
use Rattle.vectors.specs.Laws.Fractions.{norm}
use Rattle.vectors.specs.Laws.Options.{rotates}
use Rattle.vectors.specs.Laws.Normal.{Is, unit_err, normal}
use Rattle.vectors.specs.Laws.Turn.{turn_by, turn_e, turns, turn_near, n_err, NearUnit, norm-pos, round-names, s-top, exact-part}

-- r stands for v turned by (x, y, z, w), i = 1 / N
pub record Turned (i x y z w : ℚ) (v r : Vec3) (m E : ℕ) : Type 0 where
  pub along-x : Is r.x (turn_by i x y z w (val v.x) (val v.y) (val v.z)) m E
  pub along-y : Is r.y (turn_by i y z x w (val v.y) (val v.z) (val v.x)) m E
  pub along-z : Is r.z (turn_by i z x y w (val v.z) (val v.x) (val v.y)) m E

-- every coordinate at most M
pub record Below (M : ℕ) (v : Vec3) : Type 0 where
  pub x_below : Abs (val v.x) M
  pub y-below : Abs (val v.y) M
  pub z-below : Abs (val v.z) M

pub finite-parts : (v : Vec3) → T (finite_of v) → T (finite v.x) × T (finite v.y) × T (finite v.z)
finite-parts v t =
    let a = both (is_finite v.x && is_finite v.y) (is_finite v.z) t in
    let b = both (is_finite v.x) (is_finite v.y) a.0 in
    (finite-of v.x b.0, finite-of v.y b.1, finite-of v.z a.1)

pub rotated : (M N E : ℕ) → T (turns M N E) → (f : Quat) (v r : Vec3) (x y z w : ℚ) → rotate_vector_of f v ≡ Some r
    → NearUnit f x y z w → Below M v → Turned (inv (norm x y z w)) x y z w v r (M + M) E
unfolding turn_e
rotated M N E t f v r x y z w e G B =
    let R = rotates f v r e in
    let u = R.unit in
    let L = normal f u R.normal in
    let fin = finite-parts v R.fine in
    let i = inv (norm x y z w) in
    let s = L.c in
    let X = exact-part f u x y z w G L u.x f.x x L.x G.x-near in
    let Y = exact-part f u x y z w G L u.y f.y y L.y G.y-near in
    let Z = exact-part f u x y z w G L u.z f.z z L.z G.z-near in
    let W = exact-part f u x y z w G L u.w f.w w L.w G.w-near in
    let a : Input v.x M = (fin.0, B.x_below) in
    let b : Input v.y M = (fin.1, B.y-below) in
    let c : Input v.z M = (fin.2, B.z-below) in
    let P : ℚ → Type 0 = λ n. (n *q i ≡ qn 1) × Abs (n -q qn 1) n_err in
    let p₁ : P (norm x y z w) = (inv-ok (norm x y z w) (norm-pos (norm x y z w) G.size), G.size) in
    let p₂ = subst P (round-names x y z w) p₁ in
    let p₃ = subst P (round-names y z x w) p₂ in
    let Q : ℚ → Type 0 = λ n. Abs (n -q qn 1) unit_err in
    let q₂ = subst Q (round-names (val u.x) (val u.y) (val u.z) (val u.w)) L.size in
    let q₃ = subst Q (round-names (val u.y) (val u.z) (val u.x) (val u.w)) q₂ in
    let top = s-top f u x y z w G L in
    subst (λ s. Turned i x y z w v s (M + M) E) R.is (record {
      along-x = turn_near M N E t i x y z w s u.x u.y u.z u.w v.x v.y v.z p₁.0 p₁.1 top X Y Z W L.size a b c;
      along-y = turn_near M N E t i y z x w s u.y u.z u.x u.w v.y v.z v.x p₂.0 p₂.1 top Y Z X W q₂ b c a;
      along-z = turn_near M N E t i z x y w s u.z u.x u.y u.w v.z v.x v.y p₃.0 p₃.1 top Z X Y W q₃ c a b;
    })

-- ---- the numbers for an axis (at most 1), a local vector (64) and the difference of two (129)
pub axis-turns : T (turns (2 ^ 256) (386 * 2 ^ 203) (2 ^ 212))
unfolding turns leq ◌+q◌ ◌*q◌ negq iv U
axis-turns = tt

pub local-turns : T (turns (2 ^ 262) (386 * 2 ^ 209) (2 ^ 218))
unfolding turns leq ◌+q◌ ◌*q◌ negq iv U
local-turns = tt

pub arm-turns : T (turns (129 * 2 ^ 256) (129 * (386 * 2 ^ 203)) (129 * 2 ^ 212))
unfolding turns leq ◌+q◌ ◌*q◌ negq iv U
arm-turns = tt
