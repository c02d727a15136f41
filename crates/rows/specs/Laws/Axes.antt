-- Aligned axes: where both rows across are at most their tolerance, and the Z axes' dot product passed its test, the exact Z of
-- frame b is within 10^-11 of frame a's Z, across, and not opposed.
use Rattle.std.specs.Prelude.{◌≡◌, List, [], ◌∷◌, not, ◌+◌, ◌*◌, ◌^◌, T, Float}
use Rattle.std.proofs.Common.{sym, subst, lit<}
use Rattle.std.specs.Float.Ieee.{round, le}
use Rattle.std.specs.Float.Ieee.Scale.{finite}
use Rattle.exact.specs.Rat.{ℚ, qn, leq, ◌+q◌, ◌-q◌, negq, ◌≤q◌, ◌<q◌, ≤q-sub, sub-≤q, ≤q-total, ≤q-trans}
use Rattle.exact.specs.Abs.{U, iv, 0≤, Abs, abs-eq, abs-sub, positive}
use Rattle.exact.specs.Ring.{var, ◌:+◌, ◌:-◌, ng, same, ring}
use Rattle.exact.specs.RingQ.{Rx, rv, ◌⊕◌, ◌⊖◌, ◌⊗◌, same_q, ring_q}
use Rattle.exact.specs.Cert.{Nns, comb, den, by-nn, hyp, ◌⊞◌}
use Rattle.exact.specs.Val.{val}
use Rattle.exact.specs.Compare.{le_val}
use Rattle.arith.specs.Real.{ratio, abs_of}
use Rattle.vectors.specs.declared.vector.Vec3.{Vec3}
use Rattle.vectors.specs.declared.quaternion.Quat.{Quat}
use Rattle.vectors.specs.Vector.{axis_x, axis_y, dot_of}
use Rattle.vectors.specs.Laws.Turn.{NearUnit}
use Rattle.rows.specs.declared.geometry.EqualityRow.{EqualityRow}
use Rattle.rows.specs.ExactGeometry.{Vector, Quaternion, ◌·◌, X, Y, Z, across, Aligned}
use Rattle.rows.specs.Laws.Results.{Facing, Across}
use Rattle.rows.specs.Laws.Anchors.{IsV}
use Rattle.rows.specs.Laws.Linear.{dots, dot-near, value-top, axis_err, x-axis, y-axis, z-axis}

swap : (v w : Vector) → v · w ≡ w · v
unfolding same_q
swap v w = ring_q (v.x ∷ v.y ∷ v.z ∷ w.x ∷ w.y ∷ w.z ∷ []) (rv 0 ⊗ rv 3 ⊕ rv 1 ⊗ rv 4 ⊕ rv 2 ⊗ rv 5) (rv 3 ⊗ rv 0 ⊕ rv 4 ⊗ rv 1 ⊕ rv 5 ⊗ rv 2) tt

axis-dots : T (dots (2 ^ 256) axis_err (2 ^ 256) axis_err (13 * 2 ^ 211))
unfolding dots U
axis-dots = tt

-- 10^-13 is below 2 ^ -43, 10^-10 above 2 ^ -34, and 17 · 2 ^ -45 below 10^-11
align-tolerance : T (finite (ratio 1 (10 ^ 13))) × Abs (val (ratio 1 (10 ^ 13))) (2 ^ 213)
unfolding round leq ◌+q◌ negq iv U
align-tolerance = (tt, (tt, tt))

facing-limit : T (finite (ratio 1 (10 ^ 10))) × (iv (2 ^ 222) ≤q val (ratio 1 (10 ^ 10)))
unfolding round leq iv U
facing-limit = (tt, tt)

across-limit : 0≤ (across -q iv (17 * 2 ^ 211))
unfolding leq ◌+q◌ negq iv U
across-limit = tt

minus_minus : (x a : ℚ) → x +q a ≡ x -q negq a
unfolding same
minus_minus x a = ring (x ∷ a ∷ []) (var 0 :+ var 1) (var 0 :- ng (var 1)) tt

within-across : (x : ℚ) → Abs x (17 * 2 ^ 211) → (negq across ≤q x) × (x ≤q across)
unfolding same_q den comb
within-across x h =
    let ρ = x ∷ iv (17 * 2 ^ 211) ∷ across ∷ negq across ∷ [] in
    let H : List Rx = (rv 1 ⊖ rv 0) ∷ (rv 1 ⊕ rv 0) ∷ (rv 2 ⊖ rv 1) ∷ [] in
    let k : Nns ρ H = (h.0, (h.1, (across-limit, tt))) in
    let low : 0≤ (x +q across) = by-nn ρ [] tt H k [] (hyp 1 ⊞ hyp 2) (rv 0 ⊕ rv 2) tt in
    (sub-≤q (negq across) x (subst 0≤ (minus_minus x across) low), sub-≤q x across (by-nn ρ [] tt H k [] (hyp 0 ⊞ hyp 2) (rv 2 ⊖ rv 0) tt))

-- one row across
crossed : (axis z : Vec3) (E F : Vector) (v t : Float) → IsV axis E (2 ^ 256) axis_err → IsV z F (2 ^ 256) axis_err
    → dot_of axis z ≡ v → ratio 1 (10 ^ 13) ≡ t → T (le (abs_of v) t) → (negq across ≤q F · E) × (F · E ≤q across)
unfolding same_q
crossed axis z E F v t ha hz ev et k =
    let D = dot-near (2 ^ 256) axis_err (2 ^ 256) axis_err (13 * 2 ^ 211) axis-dots axis z E F ha hz in
    let w = val (dot_of axis z) in
    let tol = subst (λ x. T (finite x) × Abs (val x) (2 ^ 213)) et align-tolerance in
    let w-top = subst (λ x. Abs (val x) (2 ^ 213)) (sym ev) (value-top v t (2 ^ 213) tol.0 tol.1 k) in
    let s =
    abs-eq (w -q (w -q E · F)) (E · F) (2 ^ 213 + 13 * 2 ^ 211) (ring_q (w ∷ (E · F) ∷ []) (rv 0 ⊖ (rv 0 ⊖ rv 1)) (rv 1) tt)
    (abs-sub w (w -q E · F) (2 ^ 213) (13 * 2 ^ 211) w-top D.1) in
    within-across (F · E) (subst (λ x. Abs x (17 * 2 ^ 211)) (swap E F) s)

-- not opposed
not-opposed : (za z : Vec3) (E F : Vector) → IsV za E (2 ^ 256) axis_err → IsV z F (2 ^ 256) axis_err
    → T (not (le (dot_of za z) (ratio 1 (10 ^ 10)))) → qn 0 <q F · E
unfolding same_q den comb
not-opposed za z E F ha hz k =
    let D = dot-near (2 ^ 256) axis_err (2 ^ 256) axis_err (13 * 2 ^ 211) axis-dots za z E F ha hz in
    let w = val (dot_of za z) in
    let c = val (ratio 1 (10 ^ 10)) in
    let above = ≤q-total w c (subst (λ b. T (not b)) (le_val (dot_of za z) (ratio 1 (10 ^ 10)) D.0 facing-limit.0) k) in
    let low = ≤q-sub (iv (2 ^ 222)) w (≤q-trans (iv (2 ^ 222)) c w facing-limit.1 above) in
    let ρ = w ∷ (E · F) ∷ iv (2 ^ 222) ∷ iv (13 * 2 ^ 211) ∷ iv (2 ^ 214) ∷ [] in
    let H : List Rx = (rv 0 ⊖ rv 2) ∷ (rv 3 ⊖ (rv 0 ⊖ rv 1)) ∷ (rv 2 ⊖ (rv 3 ⊕ rv 4)) ∷ [] in
    let l : 0≤ (E · F -q iv (2 ^ 214)) = by-nn ρ [] tt H (low, (D.1.0, (gap, tt))) [] (hyp 0 ⊞ hyp 1 ⊞ hyp 2) (rv 1 ⊖ rv 4) tt in
    subst (λ x. qn 0 <q x) (swap E F) (positive (E · F) (2 ^ 214) (lit< tt) (sub-≤q (iv (2 ^ 214)) (E · F) l))
  where
    gap : 0≤ (iv (2 ^ 222) -q (iv (13 * 2 ^ 211) +q iv (2 ^ 214)))
    gap = unfold leq ◌+q◌ negq iv U in tt

pub aligned : (fa fb : Quat) (ga gb : Quaternion) (z : Vec3) (x y : EqualityRow)
    → NearUnit fa ga.x ga.y ga.z ga.w → NearUnit fb gb.x gb.y gb.z gb.w → Facing fa fb z → Across fa axis_x z x → Across fa axis_y z y
    → T (le (abs_of x.value) x.tolerance) → T (le (abs_of y.value) y.tolerance) → Aligned ga (Z gb)
aligned fa fb ga gb z x y A B F Rx₀ Ry₀ tx ty =
    let zb = z-axis fb gb z B F.b-rotates in
    record {
      on-x =
          crossed Rx₀.axis z (X ga) (Z gb) x.value x.tolerance (x-axis fa ga Rx₀.axis A Rx₀.rotates) zb
          Rx₀.value-is Rx₀.tolerance-is tx;
      on-y =
          crossed Ry₀.axis z (Y ga) (Z gb) y.value y.tolerance (y-axis fa ga Ry₀.axis A Ry₀.rotates) zb
          Ry₀.value-is Ry₀.tolerance-is ty;
      on-z = not-opposed F.za z (Z ga) (Z gb) (z-axis fa ga F.za A F.a-rotates) zb F.above;
    }
