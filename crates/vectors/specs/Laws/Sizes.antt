-- The rotation law at every size from 1 to 129: each component is within 2 ^ -44 times the bound on the coordinates of the exact turn.
-- `rotated` is a test at one bound. The sizes of a table pass it with room, and each is at most 1.08
-- times the one before, so that between two sizes the law of the larger serves.
use Rattle.std.specs.Prelude.{Some}
use Rattle.std.specs.Prelude.{◌≡◌, refl, Bool, true, ◌&&◌, ℕ, ◌*◌, ◌^◌, ◌≤◌, ◌<◌, leb}
use Rattle.std.proofs.Common.{sym, subst, le_trans, le_of_lt, not-le_of_lt, lt_of_not-le, lt_of_lt_of_le, le_of_mul-le-mul_right, mul_assoc, leb→le, lit<}
use mathlib.Core.List.{List, [], ◌∷◌}
use Rattle.std.proofs.Math.Decide.{dec_le}
use Rattle.std.proofs.Math.Dec.{T}
use Rattle.exact.specs.Rat.{ℚ, leq, ◌+q◌, ◌-q◌, ◌*q◌, negq, inv}
use Rattle.exact.specs.Abs.{U, iv, Abs, abs-mono}
use Rattle.exact.specs.Val.{val}
use Rattle.vectors.specs.declared.vector.Vec3.{Vec3}
use Rattle.vectors.specs.declared.quaternion.Quat.{Quat}
use Rattle.vectors.specs.Quaternion.{rotate_vector_of}
use Rattle.vectors.specs.Laws.Tests.{both}
use Rattle.vectors.specs.Laws.Fractions.{norm}
use Rattle.vectors.specs.Laws.Turn.{turn_by, turns, NearUnit}
use Rattle.vectors.specs.Laws.Rotation.{Below, rotated}

-- r is within E of v turned by (x, y, z, w), i = 1 / N
pub record Within (i x y z w : ℚ) (v r : Vec3) (E : ℕ) : Type 0 where
  pub along-x : Abs (val r.x -q turn_by i x y z w (val v.x) (val v.y) (val v.z)) E
  pub along-y : Abs (val r.y -q turn_by i y z x w (val v.y) (val v.z) (val v.x)) E
  pub along-z : Abs (val r.z -q turn_by i z x y w (val v.z) (val v.x) (val v.y)) E

-- a size g is g times 2 ^ -16
abbrev bound : ℕ → ℕ
bound g = g * 2 ^ 240

abbrev lost : ℕ → ℕ
lost g = g * (386 * 2 ^ 187)

abbrev err : ℕ → ℕ
err g = g * (470 * 2 ^ 187)

-- every size passes the test, with an error below 2 ^ -44 of the size before it
unfoldable climbs : ℕ → List ℕ → Bool
climbs low [] = true
climbs low (g ∷ gs) = turns (bound g) (lost g) (err g) && (leb (err g) (low * 2 ^ 196) && climbs g gs)

top : ℕ → List ℕ → ℕ
top low [] = low
top low (g ∷ gs) = top g gs

module _ (m E : ℕ) (f : Quat) (v r : Vec3) (x y z w : ℚ) (e : rotate_vector_of f v ≡ Some r) (G : NearUnit f x y z w) (B : Below m v) (h : m ≤ E * 2 ^ 44) where
  at_size : (low g : ℕ) → T (turns (bound g) (lost g) (err g)) → T (leb (err g) (low * 2 ^ 196))
      → bound low < m → m ≤ bound g → Within (inv (norm x y z w)) x y z w v r E
  at_size low g t l a b =
      let R = rotated (bound g) (lost g) (err g) t f v r x y z w e G (record {
        x_below = abs-mono _ m (bound g) b B.x_below;
        y-below = abs-mono _ m (bound g) b B.y-below;
        z-below = abs-mono _ m (bound g) b B.z-below;
      }) in
      let q : err g ≤ E = small low (err g) (leb→le (err g) (low * 2 ^ 196) l) a in
      record {
        along-x = abs-mono _ (err g) E q R.along-x.2;
        along-y = abs-mono _ (err g) E q R.along-y.2;
        along-z = abs-mono _ (err g) E q R.along-z.2;
      }
    where
      small : (low n : ℕ) → n ≤ low * 2 ^ 196 → bound low < m → n ≤ E
      small low n p q =
          le_trans p
          (le_of_mul-le-mul_right (subst (λ (k : ℕ). k ≤ E * 2 ^ 44) (sym (mul_assoc low (2 ^ 196) (2 ^ 44))) (le_trans (le_of_lt q) h)) (lit< tt))

  climb : (low : ℕ) (gs : List ℕ) → T (climbs low gs) → bound low < m → m ≤ bound (top low gs) → Within (inv (norm x y z w)) x y z w v r E
  unfolding climbs top
  climb low [] t a b = absurd (not-le_of_lt a b)
  climb low (g ∷ gs) t a b =
      let p = both (turns (bound g) (lost g) (err g)) (leb (err g) (low * 2 ^ 196) && climbs g gs) t in
      let q = both (leb (err g) (low * 2 ^ 196)) (climbs g gs) p.1 in
      pick (dec_le m (bound g)) p.0 q.0 (λ k. climb g gs q.1 k b)
    where
      pick : Dec (m ≤ bound g) → T (turns (bound g) (lost g) (err g)) → T (leb (err g) (low * 2 ^ 196))
          → (bound g < m → Within (inv (norm x y z w)) x y z w v r E) → Within (inv (norm x y z w)) x y z w v r E
      pick (yes d) t₁ t₂ up = at_size low g t₁ t₂ a d
      pick (no d) t₁ t₂ up = up (lt_of_not-le d)

-- from 1 to 129, in units of 2 ^ -16
abbrev sizes : List ℕ
sizes =
    65536 ∷ 70778 ∷ 76440 ∷ 82555 ∷ 89159 ∷ 96291 ∷ 103994 ∷ 112313 ∷ 121298 ∷ 131001 ∷ 141481 ∷ 152799
    ∷ 165022 ∷ 178223 ∷ 192480 ∷ 207878 ∷ 224508 ∷ 242468 ∷ 261865 ∷ 282814 ∷ 305439 ∷ 329874 ∷ 356263 ∷ 384764
    ∷ 415545 ∷ 448788 ∷ 484691 ∷ 523466 ∷ 565343 ∷ 610570 ∷ 659415 ∷ 712168 ∷ 769141 ∷ 830672 ∷ 897125 ∷ 968895
    ∷ 1046406 ∷ 1130118 ∷ 1220527 ∷ 1318169 ∷ 1423622 ∷ 1537511 ∷ 1660511 ∷ 1793351 ∷ 1936819 ∷ 2091764 ∷ 2259105 ∷ 2439833
    ∷ 2635019 ∷ 2845820 ∷ 3073485 ∷ 3319363 ∷ 3584912 ∷ 3871704 ∷ 4181440 ∷ 4515955 ∷ 4877231 ∷ 5267409 ∷ 5688801 ∷ 6143905
    ∷ 6635417 ∷ 7166250 ∷ 7739550 ∷ 8358714 ∷ 8454144 ∷ []

sizes-climb : T (climbs 61440 sizes)
unfolding climbs turns leq ◌+q◌ ◌*q◌ negq iv U
sizes-climb = tt

sizes-top : top 61440 sizes ≡ 8454144
unfolding top
sizes-top = refl

-- m bounds the coordinates, in units of 2 ^ -256, and E is at least 2 ^ -44 of it
pub rotated-within : (m E : ℕ) → 2 ^ 256 ≤ m → m ≤ 129 * 2 ^ 256 → m ≤ E * 2 ^ 44 → (f : Quat) (v r : Vec3) (x y z w : ℚ)
    → rotate_vector_of f v ≡ Some r → NearUnit f x y z w → Below m v → Within (inv (norm x y z w)) x y z w v r E
rotated-within m E a b h f v r x y z w e G B =
    climb m E f v r x y z w e G B h 61440 sizes sizes-climb (lt_of_lt_of_le (lit< tt) a) (subst (λ (k : ℕ). m ≤ k * 2 ^ 240) (sym sizes-top) b)
