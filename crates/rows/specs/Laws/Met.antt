-- Demand 3 for one joint. `met`: where a joint's rows were written from bodies a and b and every value is within its tolerance, and
-- bodies at the same places hand back records on the ground, the joint is met by these records. `stands`: a record that is handed back
-- holds finite numbers, and its N is above 0. Bodies that were kicked since are at the same place.
use Rattle.std.specs.Prelude.{Some}
use Rattle.std.specs.Prelude.{◌≡◌, List, [], ◌∷◌, Bool, ◌&&◌, ◌^◌, T, Float}
use Rattle.std.proofs.Common.{sym, ap, ◌∙◌, subst, subst₂}
use Rattle.std.specs.Float.{binary64}
use Rattle.std.specs.Float.Ieee.Fits.{sub-fits}
use Rattle.exact.specs.Rat.{ℚ, leq, ◌+q◌, ◌-q◌, ◌*q◌, ◌≤q◌, ≤q-trans, sub-≤q, inv-ok}
use Rattle.exact.specs.Abs.{U, iv, Abs}
use Rattle.exact.specs.RingQ.{rv, ◌⊕◌, ◌⊖◌, ◌⊗◌, same_q, ring_q}
use Rattle.exact.specs.Cert.{bounds, bound}
use Rattle.exact.specs.Val.{val}
use Rattle.arith.specs.Real.{ratio}
use Rattle.arith.specs.Flow.{go, ◌>>=◌}
use Rattle.vectors.specs.declared.vector.Vec3.{Vec3}
use Rattle.vectors.specs.declared.quaternion.Quat.{Quat}
use Rattle.vectors.specs.Vector.{axis_x, axis_y, axis_z, add_of, sub_of, finite_of}
use Rattle.vectors.specs.Quaternion.{product_of, is_normalized_of, rotate_vector_of}
use Rattle.vectors.specs.Laws.Tests.{both}
use Rattle.vectors.specs.Laws.Length.{Fits3}
use Rattle.vectors.specs.Laws.Turn.{NearUnit, norm-pos}
use Rattle.vectors.specs.Laws.UnitTest.{UnitQuat, unit-quat}
use Rattle.vectors.specs.Laws.Product.{product-near}
use Rattle.rows.specs.declared.body.BodyState.{BodyState}
use Rattle.rows.specs.declared.body.MomentumBody.{MomentumBody}
use Rattle.rows.specs.declared.geometry.JointFrame.{JointFrame}
use Rattle.rows.specs.declared.geometry.Joint.{Joint}
use Rattle.rows.specs.declared.geometry.Linear.{Linear}
use Rattle.rows.specs.declared.geometry.Linear.TheVariants.{Point, Line, Plane}
use Rattle.rows.specs.declared.geometry.Turning.{Turning}
use Rattle.rows.specs.declared.geometry.Turning.TheVariants.{Free, Align, Cone}
use Rattle.rows.specs.declared.geometry.Motions.{Motions}
use Rattle.rows.specs.declared.geometry.Motions.TheVariants.{Rod, Frame}
use Rattle.rows.specs.declared.geometry.EqualityRow.{EqualityRow}
use Rattle.rows.specs.declared.geometry.Ends.{Ends}
use Rattle.rows.specs.Body.{state_of}
use Rattle.rows.specs.Motions.{motions_of}
use Rattle.rows.specs.Geometry.{axes_of, linear_row, distance_row, turning_rows, motion_rows, ends_of, write_equality_rows}
use Rattle.rows.specs.ExactGeometry.{Vector, Quaternion, ◌·◌, ◌-v◌, quaternion, N, product, X, Y, Z, Place, anchor, frame}
use Rattle.rows.specs.ExactGeometry.{squared, micrometre, off, Turned, MetBy, Met, Stands}
use Rattle.rows.specs.Laws.Orthogonal.{parts-square}
use Rattle.rows.specs.Laws.Results.{step, go_same, stated, Anchored, ended, along, rod}
use Rattle.rows.specs.Laws.SamePlace.{SamePlace}
use Rattle.rows.specs.Laws.Places.{placed}
use Rattle.rows.specs.Laws.Anchors.{IsV, Inside, AnchorNear, anchor-near, state_place}
use Rattle.rows.specs.Laws.Linear.{tolerance-top, axis_err, x-axis, y-axis, z-axis, d_top, d_err, delta-near, row_err, row_near}
use Rattle.rows.specs.Laws.Axes.{aligned}
use Rattle.rows.specs.Laws.Rods.{Bounded, rod-met, length_in, length-in}
use Rattle.rows.specs.Laws.RowsIn.{RowsIn, Found, OnAxes, framed, aligns}

-- ---- bodies at the same place
moved : (a b : MomentumBody) (local p : Vec3) → SamePlace a b → Anchored a local p → Anchored b local p
moved a b local p S A = record {
  arm = A.arm;
  rotates = subst₂ (λ q v. rotate_vector_of q (sub_of local v) ≡ Some A.arm) S.rotation-is S.local-is A.rotates;
  is = subst (λ c. add_of c A.arm ≡ p) S.center-is A.is;
  finite = subst (λ c. T (finite_of (add_of c A.arm))) S.center-is A.finite;
}

-- ---- the ranges of refusals 6 and 9, as they are tested
abbrev pub frame_in : JointFrame → Bool
frame_in frame = finite_of frame.local_anchor && Inside frame.local_anchor (ratio 64 1) && is_normalized_of frame.local_rotation

abbrev pub MotionsIn : Motions → Type 0
MotionsIn (Rod length) = T (length_in length)
MotionsIn (Frame _ turning) = Unit {0}

frame-parts : (f : JointFrame) → T (frame_in f) → T (Inside f.local_anchor (ratio 64 1)) × UnitQuat f.local_rotation
frame-parts f t =
    let a = both (finite_of f.local_anchor && Inside f.local_anchor (ratio 64 1)) (is_normalized_of f.local_rotation) t in
    ((both (finite_of f.local_anchor) (Inside f.local_anchor (ratio 64 1)) a.0).1, unit-quat f.local_rotation a.1)

-- ---- squares of small numbers
micrometre-limit : iv (2 ^ 202) ≤q micrometre *q micrometre
unfolding leq ◌*q◌ iv U
micrometre-limit = tt

below : (x : ℚ) → Abs x (2 ^ 202) → x ≤q micrometre *q micrometre
below x h = ≤q-trans x (iv (2 ^ 202)) (micrometre *q micrometre) (sub-≤q x (iv (2 ^ 202)) h.0) micrometre-limit

module _ (a b c : ℚ) (ha : Abs a row_err) where
  one-small : a *q a ≤q micrometre *q micrometre
  unfolding bounds
  one-small = below (a *q a) (bound (a ∷ []) (row_err ∷ []) (ha, tt) (rv 0 ⊗ rv 0) (2 ^ 202) tt)

  two-small : Abs b row_err → a *q a +q b *q b ≤q micrometre *q micrometre
  unfolding bounds
  two-small hb = below (a *q a +q b *q b) (bound (a ∷ b ∷ []) (row_err ∷ row_err ∷ []) (ha, (hb, tt)) (rv 0 ⊗ rv 0 ⊕ rv 1 ⊗ rv 1) (2 ^ 202) tt)

  three-small : Abs b row_err → Abs c row_err → a *q a +q b *q b +q c *q c ≤q micrometre *q micrometre
  unfolding bounds
  three-small hb hc =
      below (a *q a +q b *q b +q c *q c)
      (bound (a ∷ b ∷ c ∷ []) (row_err ∷ row_err ∷ row_err ∷ []) (ha, (hb, (hc, tt))) (rv 0 ⊗ rv 0 ⊕ rv 1 ⊗ rv 1 ⊕ rv 2 ⊗ rv 2) (2 ^ 202) tt)

take-away : (a b c s : ℚ) → a +q b +q c ≡ s → a +q b ≡ s -q c
unfolding same_q
take-away a b c s e = ring_q (a ∷ b ∷ c ∷ []) (rv 0 ⊕ rv 1) (rv 0 ⊕ rv 1 ⊕ rv 2 ⊖ rv 2) tt ∙ ap (λ z. z -q c) e

-- ---- the joint, from what is known of both ends
module _ (joint : Joint) (e : Ends) (sa sb : BodyState) where
  abbrev fa : JointFrame
  fa = joint.frame_a

  abbrev fb : JointFrame
  fb = joint.frame_b

  abbrev A : Place
  A = state_place sa

  abbrev B : Place
  B = state_place sb

  abbrev ga : Quaternion
  ga = frame A fa

  abbrev gb : Quaternion
  gb = frame B fb

  abbrev d : Vector
  d = anchor B fb -v anchor A fa

  pub record Known : Type 0 where
    pub a-near : AnchorNear e.pa (anchor A fa)
    pub b-near : AnchorNear e.pb (anchor B fb)
    pub delta-is : sub_of e.pb e.pa ≡ e.delta
    pub a_unit : NearUnit e.frame_a ga.x ga.y ga.z ga.w
    pub b-unit : NearUnit e.frame_b gb.x gb.y gb.z gb.w

  module _ (K : Known) where
    delta : IsV e.delta d d_top d_err
    delta = subst (λ v. IsV v d d_top d_err) K.delta-is (delta-near e.pa e.pb (anchor A fa) (anchor B fb) K.a-near K.b-near)

    delta-fits : Fits3 e.delta
    delta-fits = subst Fits3 K.delta-is (record {
      x_fits = sub-fits binary64 e.pb.x e.pa.x;
      y-fits = sub-fits binary64 e.pb.y e.pa.y;
      z-fits = sub-fits binary64 e.pb.z e.pa.z;
      x-fine = D.x-is.0;
      y-fine = D.y-is.0;
      z-fine = D.z-is.0;
    })
      where
        D : IsV (sub_of e.pb e.pa) d d_top d_err
        D = delta-near e.pa e.pb (anchor A fa) (anchor B fb) K.a-near K.b-near

    -- one row along an axis
    part : (local : Vec3) (E : Vector) → ((r : Vec3) → rotate_vector_of e.frame_a local ≡ Some r → IsV r E (2 ^ 256) axis_err)
        → Found (linear_row joint e local) → Abs (d · E) row_err
    part local E axis F =
        let R = along joint e local F.row F.is in
        let t = tolerance-top e.pa e.pb (anchor A fa) (anchor B fb) F.row.tolerance K.a-near K.b-near R.tolerance-is in
        row_near e.delta R.axis d E F.row.value F.row.tolerance delta (axis R.axis R.rotates) R.value-is t.0 t.1 F.within

    module _ {linear : Linear} (L : OnAxes linear joint e) where
      on-x : T (axes_of linear).x → Abs (d · X ga) row_err
      on-x t = part axis_x (X ga) (λ r. x-axis e.frame_a ga r K.a_unit) (L.on-x t)

      on-y : T (axes_of linear).y → Abs (d · Y ga) row_err
      on-y t = part axis_y (Y ga) (λ r. y-axis e.frame_a ga r K.a_unit) (L.on-y t)

      on-z : T (axes_of linear).z → Abs (d · Z ga) row_err
      on-z t = part axis_z (Z ga) (λ r. z-axis e.frame_a ga r K.a_unit) (L.on-z t)

    squares : d · X ga *q (d · X ga) +q d · Y ga *q (d · Y ga) +q d · Z ga *q (d · Z ga) ≡ d · d
    squares = parts-square ga d (inv-ok (N ga) (norm-pos (N ga) K.a_unit.size))

    -- off the point, the line or the plane
    off_small : (linear : Linear) → OnAxes linear joint e → off linear d ga ≤q squared micrometre
    off_small Point L = subst (λ s. s ≤q squared micrometre) squares (three-small (d · X ga) (d · Y ga) (d · Z ga) (on-x L tt) (on-y L tt) (on-z L tt))
    off_small Line L =
        subst (λ s. s ≤q squared micrometre) (take-away (squared (d · X ga)) (squared (d · Y ga)) (squared (d · Z ga)) (d · d) squares)
        (two-small (d · X ga) (d · Y ga) (d · Y ga) (on-x L tt) (on-y L tt))
    off_small Plane L = one-small (d · Z ga) (d · Z ga) (d · Z ga) (on-z L tt)

    turned_so : (turning : Turning) (rows : List EqualityRow) → turning_rows turning joint e ≡ go rows → RowsIn rows → Turned turning ga (Z gb)
    turned_so Free rows h w = tt
    turned_so Align rows h w =
        let R = aligns joint e rows h w in
        aligned e.frame_a e.frame_b ga gb R.z R.x R.y K.a_unit K.b-unit
        R.face R.x-across R.y-across R.x-within R.y-within
    turned_so (Cone cone) rows h w = tt

    by-rod : (L : Float) (rows : List EqualityRow) → (distance_row joint e L >>= λ (row : EqualityRow). go (row ∷ [])) ≡ go rows → RowsIn rows → T (length_in L)
        → Bounded (val L) (d · d)
    by-rod L rows h w l =
        let s = step (distance_row joint e L) (λ (row : EqualityRow). go (row ∷ [])) rows h in
        let row = s.0 in
        let R = rod joint e L row s.1 in
        let t = tolerance-top e.pa e.pb (anchor A fa) (anchor B fb) row.tolerance K.a-near K.b-near R.tolerance-is in
        let i = length-in L l in
        rod-met e.delta d L row.value row.tolerance delta-fits delta R.value-is i.0 i.1 t.0 t.1
        (subst RowsIn (sym (go_same (row ∷ []) rows s.2)) w).0

    by-motions : (m : Motions) (rows : List EqualityRow) → motion_rows m joint e ≡ go rows → RowsIn rows → MotionsIn m → MetBy m d ga (Z gb)
    by-motions (Rod L) rows h w i = by-rod L rows h w i
    by-motions (Frame linear turning) rows h w i =
        let F = framed linear turning joint e rows h w in
        (off_small linear F.along, turned_so turning F.angular F.angular-is F.within)

-- ---- a frame's rotation in doubles is near the exact one of the record
frame-near : (q : Quat) (f : JointFrame) (s : BodyState) (g : Quat) → UnitQuat q → UnitQuat f.local_rotation
    → quaternion q ≡ quaternion s.rotation → product_of q f.local_rotation ≡ g
    → NearUnit g (frame (state_place s) f).x (frame (state_place s) f).y (frame (state_place s) f).z (frame (state_place s) f).w
frame-near q f s g Q P e h =
    let p = quaternion f.local_rotation in
    subst₂ (λ (g : Quat) (r : Quaternion). NearUnit g (product r p).x (product r p).y (product r p).z (product r p).w) h e
    (product-near q f.local_rotation Q P)

pub stands : (a : MomentumBody) (old s : BodyState) → state_of a old ≡ go s → Stands s.origin s.rotation
stands a old s h = (placed a old s (stated a old s h)).stands

pub met : (joint : Joint) (a b : MomentumBody) (rows : List EqualityRow) → write_equality_rows joint a b ≡ go rows → RowsIn rows
    → T (frame_in joint.frame_a) → T (frame_in joint.frame_b) → MotionsIn (motions_of joint.kind)
    → (a' b' : MomentumBody) → SamePlace a a' → SamePlace b b'
    → T (Inside a'.center_of_mass (ratio 64 1)) → T (Inside b'.center_of_mass (ratio 64 1))
    → (old_a old_b sa sb : BodyState) → state_of a' old_a ≡ go sa → state_of b' old_b ≡ go sb
    → T (Inside sa.origin (ratio 8192 1)) → T (Inside sb.origin (ratio 8192 1)) → Met joint (state_place sa) (state_place sb)
unfolding write_equality_rows
met joint a b rows h w ia ib ik a' b' Sa Sb ca cb old_a old_b sa sb ha hb oa ob =
    let r = step (ends_of joint a b) (λ (e : Ends). motion_rows (motions_of joint.kind) joint e) rows h in
    let e = r.0 in
    let E = ended joint a b e r.1 in
    let Fa = frame-parts joint.frame_a ia in
    let Fb = frame-parts joint.frame_b ib in
    let Ha = stated a' old_a sa ha in
    let Hb = stated b' old_b sb hb in
    let Pa = placed a' old_a sa Ha in
    let Pb = placed b' old_b sb Hb in
    let turns-a = subst (λ (q : Quat). product_of q joint.frame_a.local_rotation ≡ e.frame_a) Sa.rotation-is E.a-frame in
    let turns-b = subst (λ (q : Quat). product_of q joint.frame_b.local_rotation ≡ e.frame_b) Sb.rotation-is E.b-frame in
    by-motions joint e sa sb (record {
      a-near = anchor-near a' old_a sa joint.frame_a e.pa Ha Pa ca Fa.0 oa (moved a a' joint.frame_a.local_anchor e.pa Sa E.a-anchored);
      b-near = anchor-near b' old_b sb joint.frame_b e.pb Hb Pb cb Fb.0 ob (moved b b' joint.frame_b.local_anchor e.pb Sb E.b-anchored);
      delta-is = E.delta-is;
      a_unit = frame-near a'.rotation joint.frame_a sa e.frame_a Pa.unit Fa.1 Pa.rotation-is turns-a;
      b-unit = frame-near b'.rotation joint.frame_b sb e.frame_b Pb.unit Fb.1 Pb.rotation-is turns-b;
    }) (motions_of joint.kind) rows r.2 w ik
