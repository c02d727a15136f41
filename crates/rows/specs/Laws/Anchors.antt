-- Anchors: where a body hands back its record with an origin of at most 8,192, the doubles of its anchor are within 2 ^ -36 of the exact anchor of that
-- record.
-- origin = centre - turned local centre, anchor = centre + turned (local anchor - local centre), each rounded; the exact turn is linear.
use Rattle.std.specs.Prelude.{Some}
use Rattle.std.specs.Prelude.{◌≡◌, refl, List, [], ◌∷◌, Bool, ◌&&◌, ℕ, ◌+◌, ◌*◌, ◌^◌, T, Float}
use Rattle.std.proofs.Common.{sym, subst, leb→le}
use mathlib.Core.Quot
use Rattle.std.specs.Float.{binary64}
use Rattle.std.specs.Float.Ieee.{fits, round, add, sub, le}
use Rattle.std.specs.Float.Ieee.Fits.{add-fits}
use Rattle.std.specs.Float.Ieee.Scale.{finite}
use Rattle.exact.specs.Rat.{ℚ, ◌+q◌, ◌-q◌, inv}
use Rattle.exact.specs.Abs.{U, iv, Abs, abs-eq, abs-mono, abs-add, abs-sub}
use Rattle.exact.specs.RingQ.{rv, ◌⊕◌, ◌⊖◌, same_q, ring_q}
use Rattle.exact.specs.Cert.{bounds, bound}
use Rattle.exact.specs.Val.{val, rnd, huge, sub-err}
use Rattle.exact.specs.Check.{Fx, fv, ◌+f◌, ◌-f◌, mag, err, chk, sound, own}
use Rattle.exact.specs.Given.{given}
use Rattle.arith.specs.Real.{ratio, abs_of}
use Rattle.vectors.specs.declared.vector.Vec3.{Vec3}
use Rattle.vectors.specs.declared.quaternion.Quat.{Quat}
use Rattle.vectors.specs.Vector.{vec, add_of, sub_of}
use Rattle.vectors.specs.Quaternion.{quat, rotate_vector_of}
use Rattle.vectors.specs.Laws.Tests.{both, abs-within}
use Rattle.vectors.specs.Laws.Back.{sub_back}
use Rattle.vectors.specs.Laws.Fractions.{norm}
use Rattle.vectors.specs.Laws.Normal.{Is}
use Rattle.vectors.specs.Laws.Turn.{turn_by, turns, NearUnit, g_max, i_max, inv-norm}
use Rattle.vectors.specs.Laws.Rotation.{Below, rotated, local-turns, arm-turns}
use Rattle.vectors.specs.Laws.UnitTest.{sub-finite}
use Rattle.vectors.specs.Laws.Product.{Components, components, own-near}
use Rattle.rows.specs.declared.body.BodyState.{BodyState}
use Rattle.rows.specs.declared.body.MomentumBody.{MomentumBody}
use Rattle.rows.specs.declared.geometry.JointFrame.{JointFrame}
use Rattle.rows.specs.ExactGeometry.{Vector, Quaternion, ◌+v◌, vector, quaternion, turned, Place, place_of, anchor}
use Rattle.rows.specs.Laws.Orthogonal.{turn_r}
use Rattle.rows.specs.Laws.Results.{Stated, Anchored}
use Rattle.rows.specs.Laws.Places.{Placed}

-- ---- a vector of doubles, the exact one that it stands for, and bounds
pub record IsV (v : Vec3) (E : Vector) (m e : ℕ) : Type 0 where
  pub x-is : Is v.x E.x m e
  pub y-is : Is v.y E.y m e
  pub z-is : Is v.z E.z m e

-- the rotation law in these words
pub turned-near : (M K E : ℕ) → T (turns M K E) → (f : Quat) (g : Quaternion) (v r : Vec3) → rotate_vector_of f v ≡ Some r
    → NearUnit f g.x g.y g.z g.w → Below M v → IsV r (turned g (vector v)) (M + M) E
turned-near M K E t f g v r e G B =
    let R = rotated M K E t f v r g.x g.y g.z g.w e G B in record { x-is = R.along-x; y-is = R.along-y; z-is = R.along-z }

-- ---- limits on coordinates, as the refusals test them
abbrev pub Inside : Vec3 → Float → Bool
Inside v limit = le (abs_of v.x) limit && le (abs_of v.y) limit && le (abs_of v.z) limit

pub inside : (v : Vec3) (limit : Float) (n : ℕ) → T (finite limit) → val limit ≡ iv n → T (Inside v limit)
    → (T (finite v.x) × T (finite v.y) × T (finite v.z)) × Below n v
inside v limit n f e t =
    let a = both (le (abs_of v.x) limit && le (abs_of v.y) limit) (le (abs_of v.z) limit) t in
    let b = both (le (abs_of v.x) limit) (le (abs_of v.y) limit) a.0 in
    let x = abs-within v.x limit n f e b.0 in
    let y = abs-within v.y limit n f e b.1 in
    let z = abs-within v.z limit n f e a.1 in
    ((x.0, y.0, z.0), record { x_below = x.1; y-below = y.1; z-below = z.1 })

local-limit : (T (finite (ratio 64 1))) × (val (ratio 64 1) ≡ iv (2 ^ 262))
unfolding round iv U
local-limit = (tt, Quot.sound refl)

ground-limit : (T (finite (ratio 8192 1))) × (val (ratio 8192 1) ≡ iv (2 ^ 269))
unfolding round iv U
ground-limit = (tt, Quot.sound refl)

-- ---- the difference of two local vectors: within 2 ^ -46
abbrev ηErr : ℕ
ηErr = rnd (2 ^ 263)

record Split (a b : Float) : Type 0 where
  near : Abs (val b +q val (sub binary64 a b) -q val a) ηErr
  top : Abs (val (sub binary64 a b)) (129 * 2 ^ 256)

split : (a b : Float) → T (finite a) → T (finite b) → Abs (val a) (2 ^ 262) → Abs (val b) (2 ^ 262) → Split a b
unfolding same_q U
split a b fa fb ha hb =
    let e = rnd (2 ^ 263) in
    let D = abs-mono (val a -q val b) (2 ^ 262 + 2 ^ 262) (2 ^ 263) (leb→le (2 ^ 262 + 2 ^ 262) (2 ^ 263) tt)
    (abs-sub (val a) (val b) (2 ^ 262) (2 ^ 262) ha hb) in
    let R = sub-err a b (2 ^ 263) fa fb D (leb→le (2 ^ 263) (U * huge) tt) in
    let r = val (sub binary64 a b) in
    record {
      near = abs-eq (r -q (val a -q val b)) (val b +q r -q val a) e (ring_q (val a ∷ val b ∷ r ∷ []) (rv 2 ⊖ (rv 0 ⊖ rv 1)) (rv 1 ⊕ rv 2 ⊖ rv 0) tt) R.1;
      top = abs-mono r (2 ^ 263 + e) (129 * 2 ^ 256) (leb→le (2 ^ 263 + e) (129 * 2 ^ 256) tt) (own r (val a -q val b) (2 ^ 263) e D R.1);
    }

-- the exact turn is linear, and turns what the difference lost by little
lost : (i x y z w a b c d e f l m n : ℚ) → Abs i i_max → Abs x g_max → Abs y g_max → Abs z g_max → Abs w g_max → Abs (a +q d -q l) ηErr → Abs (b +q e -q m) ηErr
    → Abs (c +q f -q n) ηErr
    → Abs (turn_by i x y z w a b c +q turn_by i x y z w d e f -q turn_by i x y z w l m n) (2 ^ 214)
unfolding same_q bounds
lost i x y z w a b c d e f l m n hi hx hy hz hw p q r =
    let I = rv 0 in let X = rv 1 in let Y = rv 2 in let Z = rv 3 in let W = rv 4 in
    abs-eq (turn_by i x y z w (a +q d -q l) (b +q e -q m) (c +q f -q n)) (turn_by i x y z w a b c +q turn_by i x y z w d e f -q turn_by i x y z w l m n)
    (2 ^ 214)
    (ring_q (i ∷ x ∷ y ∷ z ∷ w ∷ a ∷ b ∷ c ∷ d ∷ e ∷ f ∷ l ∷ m ∷ n ∷ [])
    (turn_r I X Y Z W (rv 5 ⊕ rv 8 ⊖ rv 11) (rv 6 ⊕ rv 9 ⊖ rv 12) (rv 7 ⊕ rv 10 ⊖ rv 13))
    (turn_r I X Y Z W (rv 5) (rv 6) (rv 7) ⊕ turn_r I X Y Z W (rv 8) (rv 9) (rv 10) ⊖ turn_r I X Y Z W (rv 11) (rv 12) (rv 13)) tt)
    (bound (i ∷ x ∷ y ∷ z ∷ w ∷ (a +q d -q l) ∷ (b +q e -q m) ∷ (c +q f -q n) ∷ []) (i_max ∷ g_max ∷ g_max ∷ g_max ∷ g_max ∷ ηErr ∷ ηErr ∷ ηErr ∷ [])
    (hi, (hx, (hy, (hz, (hw, (p, (q, (r, tt)))))))) (turn_r I X Y Z W (rv 5) (rv 6) (rv 7)) (2 ^ 214) tt)

-- ---- one coordinate
abbrev t_top : ℕ
t_top = 2 ^ 263

abbrev top_r : ℕ
top_r = 129 * 2 ^ 257

abbrev c_top : ℕ
c_top = 2 ^ 269 + 2 ^ 264

abbrev pub p_top : ℕ
p_top = 35 * 2 ^ 264

abbrev pub a_err : ℕ
a_err = 2 ^ 220

origin_e : Fx
origin_e = fv 0 -f fv 1

anchor_e : Fx
anchor_e = fv 0 +f fv 1

originβ : List (ℕ × ℕ)
originβ = (c_top, 0) ∷ (t_top, 2 ^ 218) ∷ []

anchorβ : List (ℕ × ℕ)
anchorβ = (c_top, 0) ∷ (top_r, 129 * 2 ^ 212) ∷ []

coordinate : (c t r : Float) (T₀ R₀ G₀ : ℚ) → Is t T₀ t_top (2 ^ 218) → Is r R₀ top_r (129 * 2 ^ 212) → T (finite (sub binary64 c t))
    → Abs (val (sub binary64 c t)) (2 ^ 269) → Abs (T₀ +q R₀ -q G₀) (2 ^ 214)
    → Is (add binary64 c r) (val (sub binary64 c t) +q G₀) p_top a_err
unfolding same_q origin_e anchor_e originβ anchorβ chk U
coordinate c t r T₀ R₀ G₀ ht hr fo ho hl =
    let fc = sub-finite c t fo in
    let o = sub binary64 c t in
    let p = add binary64 c r in
    let back = sub_back c t (2 ^ 269) fc ht.0 fo ho in
    let t-top = own (val t) T₀ t_top (2 ^ 218) ht.1 ht.2 in
    let rounding = (sub-err c t (2 * 2 ^ 269 + 1) fc ht.0 back (leb→le (2 * 2 ^ 269 + 1) (U * huge) tt)).1 in
    let k = 2 ^ 269 + rnd (2 * 2 ^ 269 + 1) in
    let n = k + (t_top + 2 ^ 218) in
    let c-top : Abs (val c) c_top = abs-mono (val c) n c_top (leb→le n c_top tt)
    (abs-eq ((val o -q (val o -q (val c -q val t))) +q val t) (val c) n (ring_q (val c ∷ val t ∷ val o ∷ []) ((rv 2 ⊖ (rv 2 ⊖ (rv 0 ⊖ rv 1))) ⊕ rv 1) (rv 0) tt)
    (abs-add (val o -q (val o -q (val c -q val t))) (val t) k (t_top + 2 ^ 218)
    (abs-sub (val o) (val o -q (val c -q val t)) (2 ^ 269) (rnd (2 * 2 ^ 269 + 1)) ho rounding) t-top)) in
    let C = given c c_top (fc, c-top) in
    let S₁ = sound (c ∷ t ∷ []) (val c ∷ T₀ ∷ []) originβ (C, (ht, tt)) origin_e (tt, tt) tt in
    let S₂ = sound (c ∷ r ∷ []) (val c ∷ R₀ ∷ []) anchorβ (C, (hr, tt)) anchor_e (tt, tt) tt in
    let e₁ = err (chk originβ origin_e) in
    let e₂ = err (chk anchorβ anchor_e) in
    let near : Abs (val p -q (val o +q G₀)) a_err = abs-mono (val p -q (val o +q G₀)) (e₂ + e₁ + 2 ^ 214) a_err (leb→le (e₂ + e₁ + 2 ^ 214) a_err tt)
    (abs-eq ((val p -q (val c +q R₀)) -q (val o -q (val c -q T₀)) +q (T₀ +q R₀ -q G₀)) (val p -q (val o +q G₀)) (e₂ + e₁ + 2 ^ 214)
    (ring_q (val p ∷ val o ∷ val c ∷ T₀ ∷ R₀ ∷ G₀ ∷ []) ((rv 0 ⊖ (rv 2 ⊕ rv 4)) ⊖ (rv 1 ⊖ (rv 2 ⊖ rv 3)) ⊕ (rv 3 ⊕ rv 4 ⊖ rv 5)) (rv 0 ⊖ (rv 1 ⊕ rv 5)) tt)
    (abs-add ((val p -q (val c +q R₀)) -q (val o -q (val c -q T₀))) (T₀ +q R₀ -q G₀) (e₂ + e₁) (2 ^ 214)
    (abs-sub (val p -q (val c +q R₀)) (val o -q (val c -q T₀)) e₂ e₁ S₂.2 S₁.2) hl)) in
    let m = mag (chk anchorβ anchor_e) + e₂ + a_err in
    let p-own = own (val p) (val c +q R₀) (mag (chk anchorβ anchor_e)) e₂ S₂.1 S₂.2 in
    let top : Abs (val o +q G₀) p_top = abs-mono (val o +q G₀) m p_top (leb→le m p_top tt)
    (abs-eq (val p -q (val p -q (val o +q G₀))) (val o +q G₀) m (ring_q (val p ∷ (val o +q G₀) ∷ []) (rv 0 ⊖ (rv 0 ⊖ rv 1)) (rv 1) tt)
    (abs-sub (val p) (val p -q (val o +q G₀)) (mag (chk anchorβ anchor_e) + e₂) a_err p-own near)) in
    (S₂.0, top, near)

-- the first coordinate of v turned by q, i = 1 / N
abbrev first : ℚ → Quat → Vec3 → ℚ
first i q v = turn_by i (val q.x) (val q.y) (val q.z) (val q.w) (val v.x) (val v.y) (val v.z)

first-near : (i : ℚ) (q : Quat) (c t r m l : Vec3) → Abs i i_max → Components q → Split l.x m.x → Split l.y m.y → Split l.z m.z
    → Is t.x (first i q m) t_top (2 ^ 218) → Is r.x (first i q (sub_of l m)) top_r (129 * 2 ^ 212)
    → T (finite (sub binary64 c.x t.x)) → Abs (val (sub binary64 c.x t.x)) (2 ^ 269)
    → Is (add binary64 c.x r.x) (val (sub binary64 c.x t.x) +q first i q l) p_top a_err
first-near i q c t r m l hi C dx dy dz ht hr fo ho =
    let d = sub_of l m in
    coordinate c.x t.x r.x (first i q m) (first i q d) (first i q l) ht hr fo ho
    (lost i (val q.x) (val q.y) (val q.z) (val q.w) (val m.x) (val m.y) (val m.z) (val d.x) (val d.y) (val d.z)
    (val l.x) (val l.y) (val l.z) hi C.x-top C.y-top C.z-top C.w-top dx.near dy.near dz.near)

-- the other coordinates are the first with the names turned round
abbrev round-vec : Vec3 → Vec3
round-vec v = vec v.y v.z v.x

abbrev round-quat : Quat → Quat
round-quat q = quat q.y q.z q.x q.w

round-components : (q : Quat) → Components q → Components (round-quat q)
round-components q C = record { x-top = C.y-top; y-top = C.z-top; z-top = C.x-top; w-top = C.w-top }

-- ---- the anchor
abbrev pub state_place : BodyState → Place
state_place state = place_of state.origin state.rotation

pub record AnchorNear (p : Vec3) (P : Vector) : Type 0 where
  pub near : IsV p P p_top a_err
  pub x_fits : T (fits binary64 p.x)
  pub y-fits : T (fits binary64 p.y)
  pub z-fits : T (fits binary64 p.z)

pub anchor-near : (a : MomentumBody) (old s : BodyState) (f : JointFrame) (p : Vec3) (h : Stated a old s) → Placed a s (sub_of a.center h.centre)
    → T (Inside a.center_of_mass (ratio 64 1)) → T (Inside f.local_anchor (ratio 64 1)) → T (Inside s.origin (ratio 8192 1))
    → Anchored a f.local_anchor p → AnchorNear p (anchor (state_place s) f)
anchor-near a old s f p h P lc la lo A = subst (λ v. AnchorNear v (anchor (state_place s) f)) A.is (record {
  near = subst (λ E. IsV (add_of c r) E p_top a_err) place (record { x-is = x-part; y-is = y-part; z-is = z-part });
  x_fits = add-fits binary64 c.x r.x;
  y-fits = add-fits binary64 c.y r.y;
  z-fits = add-fits binary64 c.z r.z;
})
  where
    q : Quat
    q = a.rotation

    -- the centre, the local centre turned, the arm, the local centre, the local anchor
    c : Vec3
    c = a.center

    t : Vec3
    t = h.centre

    r : Vec3
    r = A.arm

    m : Vec3
    m = a.center_of_mass

    l : Vec3
    l = f.local_anchor

    G : NearUnit q (val q.x) (val q.y) (val q.z) (val q.w)
    G = own-near q P.unit

    C : Components q
    C = components q P.unit

    C' : Components (round-quat q)
    C' = round-components q C

    i : ℚ
    i = inv (norm (val q.x) (val q.y) (val q.z) (val q.w))

    i-top : Abs i i_max
    i-top = inv-norm (norm (val q.x) (val q.y) (val q.z) (val q.w)) G.size

    place : vector (sub_of c t) +v turned (quaternion q) (vector l) ≡ anchor (state_place s) f
    place = λ j. P.origin-is j +v turned (P.rotation-is j) (vector l)

    m_in : (T (finite m.x) × T (finite m.y) × T (finite m.z)) × Below (2 ^ 262) m
    m_in = inside m (ratio 64 1) (2 ^ 262) local-limit.0 local-limit.1 lc

    l_in : (T (finite l.x) × T (finite l.y) × T (finite l.z)) × Below (2 ^ 262) l
    l_in = inside l (ratio 64 1) (2 ^ 262) local-limit.0 local-limit.1 la

    o_in : Below (2 ^ 269) s.origin
    o_in = (inside s.origin (ratio 8192 1) (2 ^ 269) ground-limit.0 ground-limit.1 lo).1

    dx : Split l.x m.x
    dx = split l.x m.x l_in.0.0 m_in.0.0 l_in.1.x_below m_in.1.x_below

    dy : Split l.y m.y
    dy = split l.y m.y l_in.0.1 m_in.0.1 l_in.1.y-below m_in.1.y-below

    dz : Split l.z m.z
    dz = split l.z m.z l_in.0.2 m_in.0.2 l_in.1.z-below m_in.1.z-below

    t_is : IsV t (turned (quaternion q) (vector m)) t_top (2 ^ 218)
    t_is = turned-near (2 ^ 262) (386 * 2 ^ 209) (2 ^ 218) local-turns q (quaternion q) m t h.rotates G m_in.1

    r_is : IsV r (turned (quaternion q) (vector (sub_of l m))) top_r (129 * 2 ^ 212)
    r_is =
        turned-near (129 * 2 ^ 256) (129 * (386 * 2 ^ 203)) (129 * 2 ^ 212) arm-turns q (quaternion q) (sub_of l m) r A.rotates G
        (record { x_below = dx.top; y-below = dy.top; z-below = dz.top })

    x-part : Is (add binary64 c.x r.x) (val (sub binary64 c.x t.x) +q (turned (quaternion q) (vector l)).x) p_top a_err
    x-part =
        first-near i q c t r m l i-top C dx dy dz t_is.x-is r_is.x-is P.origin-finite.0
        (subst (λ (E : Vector). Abs E.x (2 ^ 269)) (sym P.origin-is) o_in.x_below)

    y-part : Is (add binary64 c.y r.y) (val (sub binary64 c.y t.y) +q (turned (quaternion q) (vector l)).y) p_top a_err
    y-part =
        first-near i (round-quat q) (round-vec c) (round-vec t) (round-vec r) (round-vec m) (round-vec l) i-top C' dy dz dx
        t_is.y-is r_is.y-is P.origin-finite.1 (subst (λ (E : Vector). Abs E.y (2 ^ 269)) (sym P.origin-is) o_in.y-below)

    z-part : Is (add binary64 c.z r.z) (val (sub binary64 c.z t.z) +q (turned (quaternion q) (vector l)).z) p_top a_err
    z-part =
        first-near i (round-quat (round-quat q)) (round-vec (round-vec c)) (round-vec (round-vec t)) (round-vec (round-vec r))
        (round-vec (round-vec m)) (round-vec (round-vec l)) i-top (round-components (round-quat q) C') dz dx dy
        t_is.z-is r_is.z-is P.origin-finite.2 (subst (λ (E : Vector). Abs E.z (2 ^ 269)) (sym P.origin-is) o_in.z-below)
