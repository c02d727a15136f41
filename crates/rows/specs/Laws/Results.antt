-- From an answer `go` back to the steps that led to it: what the definitions of Body and Geometry passed on the way.
use Rattle.std.specs.Prelude.{Option, Some, None, ok_or}
use Rattle.std.specs.Prelude.{◌≡◌, refl, Bool, true, false, not, cond, ◌&&◌, ℕ, ◌^◌, T, Float}
use Rattle.std.proofs.Common.{sym, ap, ◌∙◌, subst, arith}
use Rattle.std.specs.Float.Ieee.{le}
use Rattle.arith.specs.Real.{◌⊕◌, ◌⊖◌, ◌⊗◌, ratio, is_finite, max_of}
use Rattle.arith.specs.Flow.{Turn, go, stop, and_then, ◌>>=◌, return_if}
use Rattle.vectors.specs.declared.vector.Vec3.{Vec3}
use Rattle.vectors.specs.declared.quaternion.Quat.{Quat}
use Rattle.vectors.specs.Vector.{axis_z, add_of, sub_of, dot_of, finite_of, length_of, checked_length_of}
use Rattle.vectors.specs.Quaternion.{product_of, is_normalized_of, rotate_vector_of}
use Rattle.vectors.specs.Laws.Options.{not-not, length-is}
use Rattle.rows.specs.declared.body.BodyState.{BodyState}
use Rattle.rows.specs.declared.body.MomentumBody.{MomentumBody}
use Rattle.rows.specs.declared.geometry.Joint.{Joint}
use Rattle.rows.specs.declared.geometry.EqualityRow.{EqualityRow}
use Rattle.rows.specs.declared.geometry.Ends.{Ends}
use Rattle.rows.specs.Fault.{ArithmeticOverflow, NonConvergent, try_finite, try_length, try_rotate}
use Rattle.rows.specs.Body.{anchor_of, same_vec3, same_quat, state_with, origin_of, state_of}
use Rattle.rows.specs.Geometry.{epsilon, ends_of, tolerance_of, distance_row, linear_row, aligned_of, align_row}

-- ---- one step
not-go : {A E : Type 0} (e : E) (a : A) → ◌≡◌ {A = Turn A E} (stop e) (go a) → ⊥
not-go e a h = let z : ◌≡◌ {A = ℕ} 0 1 = cc in omega arith

pub go_same : {A E : Type 0} (a b : A) → ◌≡◌ {A = Turn A E} (go a) (go b) → a ≡ b
go_same a b h = cc

-- x ← r, and then f
pub step : {A B E : Type 0} (r : Turn A E) (f : A → Turn B E) (b : B) → (r >>= f) ≡ go b → (a : A) × (r ≡ go a) × (f a ≡ go b)
unfolding and_then
step (go a) f b h = (a, refl, h)
step (stop e) f b h = absurd (not-go e b h)

-- o.ok_or(fault)?
pub some-go : {A E : Type 0} (fault : E) (o : Option A) (x : A) → ok_or o fault ≡ go x → o ≡ Some x
some-go fault (Some y) x h = ap Some (go_same y x h)
some-go fault None x h = absurd (not-go fault x h)

pub finite-go : (v w : Vec3) → try_finite v ≡ go w → (v ≡ w) × T (finite_of v)
unfolding try_finite
finite-go v w h = walk (finite_of v) refl h
  where
    walk : (b : Bool) → finite_of v ≡ b → cond b (go v) (stop ArithmeticOverflow) ≡ go w → (v ≡ w) × T (finite_of v)
    walk true e h = (go_same v w h, subst T (sym e) tt)
    walk false e h = absurd (not-go ArithmeticOverflow w h)

pub not-returned : {E : Type 0} (b : Bool) (e : E) (u : Unit {0}) → return_if b e ≡ go u → T (not b)
not-returned true e u h = absurd (not-go e u h)
not-returned false e u h = tt

pub length-go : (v : Vec3) (x : Float) → try_length v ≡ go x → (length_of v ≡ x) × T (is_finite x)
length-go v x h = length-is v x (some-go ArithmeticOverflow (checked_length_of v) x h)

rotate-go : (q : Quat) (v r : Vec3) → try_rotate q v ≡ go r → rotate_vector_of q v ≡ Some r
rotate-go q v r h = some-go ArithmeticOverflow (rotate_vector_of q v) r h

-- ---- state_of
-- what `state_of` answers at the origin o
abbrev pub stated_at : MomentumBody → BodyState → Vec3 → Vec3 → Vec3 → BodyState
stated_at a old o linear angular =
    cond (same_vec3 o old.origin && same_quat a.rotation old.rotation) (state_with old.origin old.rotation linear angular)
    (state_with o a.rotation linear angular)

pub record Stated (a : MomentumBody) (old s : BodyState) : Type 0 where
  pub centre : Vec3
  pub rotates : rotate_vector_of a.rotation a.center_of_mass ≡ Some centre
  pub finite : T (finite_of (sub_of a.center centre))
  pub unit : T (is_normalized_of a.rotation)
  pub linear : Vec3
  pub angular : Vec3
  pub is : stated_at a old (sub_of a.center centre) linear angular ≡ s

-- the origin
record Started (a : MomentumBody) (o : Vec3) : Type 0 where
  centre : Vec3
  rotates : rotate_vector_of a.rotation a.center_of_mass ≡ Some centre
  is : sub_of a.center centre ≡ o
  finite : T (finite_of (sub_of a.center centre))
  unit : T (is_normalized_of a.rotation)

started : (a : MomentumBody) (o : Vec3) → origin_of a ≡ go o → Started a o
unfolding origin_of
started a o h =
    let r₁ = step _ _ o h in
    let r₂ = step _ _ o r₁.2 in
    let f = finite-go (sub_of a.center r₁.0) r₂.0 r₂.1 in
    let r₃ = step _ _ o r₂.2 in
    let r₄ = step _ _ o r₃.2 in
    record {
      centre = r₁.0;
      rotates = rotate-go a.rotation a.center_of_mass r₁.0 r₁.1;
      is = f.0 ∙ go_same _ o r₄.2;
      finite = f.1;
      unit = not-not (is_normalized_of a.rotation) (not-returned (not (is_normalized_of a.rotation)) ArithmeticOverflow r₃.0 r₃.1);
    }

pub stated : (a : MomentumBody) (old s : BodyState) → state_of a old ≡ go s → Stated a old s
unfolding state_of
stated a old s h =
    let r₁ = step _ _ s h in
    let O = started a r₁.0 r₁.1 in
    let r₂ = step _ _ s r₁.2 in
    let r₃ = step _ _ s r₂.2 in
    record {
      centre = O.centre;
      rotates = O.rotates;
      finite = O.finite;
      unit = O.unit;
      linear = r₂.0;
      angular = r₃.0;
      is = subst (λ o. stated_at a old o r₂.0 r₃.0 ≡ s) (sym O.is) (go_same _ s r₃.2);
    }

-- ---- anchor_of
pub record Anchored (a : MomentumBody) (local p : Vec3) : Type 0 where
  pub arm : Vec3
  pub rotates : rotate_vector_of a.rotation (sub_of local a.center_of_mass) ≡ Some arm
  pub is : add_of a.center arm ≡ p
  pub finite : T (finite_of (add_of a.center arm))

pub anchored : (a : MomentumBody) (local p : Vec3) → anchor_of a local ≡ go p → Anchored a local p
unfolding anchor_of
anchored a local p h =
    let r₁ = step _ _ p h in
    let f = finite-go (add_of a.center r₁.0) p r₁.2 in
    record { arm = r₁.0; rotates = rotate-go a.rotation (sub_of local a.center_of_mass) r₁.0 r₁.1; is = f.0; finite = f.1 }

-- ---- ends_of
pub record Ended (joint : Joint) (a b : MomentumBody) (e : Ends) : Type 0 where
  pub a-anchored : Anchored a joint.frame_a.local_anchor e.pa
  pub b-anchored : Anchored b joint.frame_b.local_anchor e.pb
  pub delta-is : sub_of e.pb e.pa ≡ e.delta
  pub a-frame : product_of a.rotation joint.frame_a.local_rotation ≡ e.frame_a
  pub b-frame : product_of b.rotation joint.frame_b.local_rotation ≡ e.frame_b

pub ended : (joint : Joint) (a b : MomentumBody) (e : Ends) → ends_of joint a b ≡ go e → Ended joint a b e
unfolding ends_of
ended joint a b e h =
    let r₁ = step _ _ e h in
    let r₂ = step _ _ e r₁.2 in
    let r₃ = step _ _ e r₂.2 in
    let f = finite-go (sub_of r₂.0 r₁.0) r₃.0 r₃.1 in
    subst (Ended joint a b) (go_same _ e r₃.2) (record {
      a-anchored = anchored a joint.frame_a.local_anchor r₁.0 r₁.1;
      b-anchored = anchored b joint.frame_b.local_anchor r₂.0 r₂.1;
      delta-is = f.0;
      a-frame = refl;
      b-frame = refl;
    })

-- ---- tolerance_of
-- what `tolerance_of` answers for the lengths la and lb
abbrev pub tolerated_at : Float → Float → Float
tolerated_at la lb = max_of (ratio 32 1 ⊗ epsilon ⊗ (la ⊕ lb)) (ratio 1 (10 ^ 13))

abbrev pub Tolerated : Vec3 → Vec3 → Float → Type 0
Tolerated pa pb t = tolerated_at (length_of pa) (length_of pb) ≡ t

tolerated : (pa pb : Vec3) (t : Float) → tolerance_of pa pb ≡ go t → Tolerated pa pb t
unfolding tolerance_of
tolerated pa pb t h =
    let r₁ = step _ _ t h in
    let r₂ = step _ _ t r₁.2 in
    let la = length-go pa r₁.0 r₁.1 in
    let lb = length-go pb r₂.0 r₂.1 in
    ap (λ x. tolerated_at x (length_of pb)) la.0 ∙ ap (tolerated_at r₁.0) lb.0 ∙ go_same _ t r₂.2

-- ---- the rows
pub record Along (joint : Joint) (e : Ends) (local : Vec3) (row : EqualityRow) : Type 0 where
  pub axis : Vec3
  pub rotates : rotate_vector_of e.frame_a local ≡ Some axis
  pub value-is : dot_of e.delta axis ≡ row.value
  pub tolerance-is : Tolerated e.pa e.pb row.tolerance

pub along : (joint : Joint) (e : Ends) (local : Vec3) (row : EqualityRow) → linear_row joint e local ≡ go row → Along joint e local row
unfolding linear_row
along joint e local row h =
    let r₁ = step _ _ row h in
    let r₂ = step _ _ row r₁.2 in
    let r₃ = step _ _ row r₂.2 in
    let r₄ = step _ _ row r₃.2 in
    subst (Along joint e local) (go_same _ row r₄.2) (record {
      axis = r₁.0;
      rotates = rotate-go e.frame_a local r₁.0 r₁.1;
      value-is = refl;
      tolerance-is = tolerated e.pa e.pb r₄.0 r₄.1;
    })

pub record Rod (joint : Joint) (e : Ends) (length : Float) (row : EqualityRow) : Type 0 where
  pub finite : T (is_finite (length_of e.delta))
  pub value-is : length_of e.delta ⊖ length ≡ row.value
  pub tolerance-is : Tolerated e.pa e.pb row.tolerance

pub rod : (joint : Joint) (e : Ends) (length : Float) (row : EqualityRow) → distance_row joint e length ≡ go row → Rod joint e length row
unfolding distance_row
rod joint e length row h =
    let r₁ = step _ _ row h in
    let r₂ = step _ _ row r₁.2 in
    let r₃ = step _ _ row r₂.2 in
    let l = length-go e.delta r₁.0 r₁.1 in
    subst (Rod joint e length) (go_same _ row r₃.2) (record {
      finite = subst (λ x. T (is_finite x)) (sym l.0) l.1;
      value-is = ap (λ x. x ⊖ length) l.0;
      tolerance-is = tolerated e.pa e.pb r₃.0 r₃.1;
    })

pub record Facing (frame_a frame_b : Quat) (z : Vec3) : Type 0 where
  pub b-rotates : rotate_vector_of frame_b axis_z ≡ Some z
  pub za : Vec3
  pub a-rotates : rotate_vector_of frame_a axis_z ≡ Some za
  pub above : T (not (le (dot_of za z) (ratio 1 (10 ^ 10))))

pub facing : (frame_a frame_b : Quat) (z : Vec3) → aligned_of frame_a frame_b ≡ go z → Facing frame_a frame_b z
unfolding aligned_of
facing frame_a frame_b z h =
    let r₁ = step _ _ z h in
    let r₂ = step _ _ z r₁.2 in
    let r₃ = step _ _ z r₂.2 in
    subst (Facing frame_a frame_b) (go_same _ z r₃.2) (record {
      b-rotates = rotate-go frame_b axis_z r₁.0 r₁.1;
      za = r₂.0;
      a-rotates = rotate-go frame_a axis_z r₂.0 r₂.1;
      above = not-returned (le (dot_of r₂.0 r₁.0) (ratio 1 (10 ^ 10))) NonConvergent r₃.0 r₃.1;
    })

pub record Across (frame_a : Quat) (local z : Vec3) (row : EqualityRow) : Type 0 where
  pub axis : Vec3
  pub rotates : rotate_vector_of frame_a local ≡ Some axis
  pub value-is : dot_of axis z ≡ row.value
  pub tolerance-is : ratio 1 (10 ^ 13) ≡ row.tolerance

pub across : (joint : Joint) (frame_a : Quat) (local z : Vec3) (row : EqualityRow) → align_row joint frame_a local z ≡ go row → Across frame_a local z row
unfolding align_row
across joint frame_a local z row h =
    let r₁ = step _ _ row h in
    let r₂ = step _ _ row r₁.2 in
    subst (Across frame_a local z) (go_same _ row r₂.2)
    (record { axis = r₁.0; rotates = rotate-go frame_a local r₁.0 r₁.1; value-is = refl; tolerance-is = refl })
