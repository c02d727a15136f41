-- The rows of a joint, written part by part, are the definition's list.
use Prim.Native.Nat.{ℕ, ◌+◌, ◌*◌, ◌≤◌, ◌<◌}
use mathlib.Core.Path.{◌≡◌, refl, sym, ◌∙◌, ap, subst}
use mathlib.Core.Bool.{Bool, true, false, cond, not}
use mathlib.Core.List.{List, [], ◌∷◌, ◌++◌}
use native.Mathlib.Omega.{arith}
use lib.Ieee.{Float}
use Rattle.std.specs.Prelude.{Option, Some, None, Ok, Err, ok_or, is_err}
use Rattle.arith.specs.Real.{F}
use Rattle.arith.specs.Flow.{go, stop, and_then, ◌>>=◌, return_if, tab}
use Rattle.arith.specs.FlowLaws.{then-go, then-stop}
use Rattle.vectors.specs.declared.vector.Vec3.{Vec3}
use Rattle.vectors.specs.declared.quaternion.Quat.{Quat}
use Rattle.vectors.specs.Vector.{vec, axis_x, axis_y, axis_z, finite_of, checked_length_of}
use Rattle.vectors.specs.VectorLaws.{axis-x-is, axis-y-is, axis-z-is}
use Rattle.vectors.specs.Quaternion.{quat_try_normalize_of, rotate_vector_of}
use Rattle.rows.specs.declared.body.MomentumBody.{MomentumBody}
use Rattle.rows.specs.declared.geometry.Joint.{Joint}
use Rattle.rows.specs.declared.geometry.Linear.{Linear}
use Rattle.rows.specs.declared.geometry.Linear.TheVariants.{Point, Line, Plane}
use Rattle.rows.specs.declared.geometry.Turning.{Turning}
use Rattle.rows.specs.declared.geometry.Motions.{Motions}
use Rattle.rows.specs.declared.geometry.EqualityRow.{EqualityRow}
use Rattle.rows.specs.declared.geometry.Ends.{Ends}
use Rattle.rows.specs.declared.geometry.Axes.{Axes}
use Rattle.rows.specs.declared.geometry.Relative.{Relative}
use Rattle.rows.specs.declared.geometry.Swing.{Swing}
use Rattle.rows.specs.Fault.{CollisionError, ArithmeticOverflow, refusal_number, Result, try_finite, try_length, try_rotate}
use Rattle.rows.specs.Unit.{unit_of}
use Rattle.rows.specs.Motions.{motions_of}
use Rattle.rows.specs.Geometry.{ends_of, tolerance_of, distance_row, linear_row, row_if, axes_of, linear_rows, gradient_row}
use Rattle.rows.specs.Geometry.{swing_row, twist_row, aligned_of, align_row, align_rows, finite_values}
use Rattle.rows.specs.Geometry.{frame_rows, motion_rows, write_equality_rows}
use Rattle.rows.specs.Count.{row_count}
use Rattle.rows.specs.View.{rows_at, row_at, Out, Kept}
use Rattle.rows.specs.Answer.{Writes}
use Rattle.rows.specs.Append.{span_of, Adds}
use Rattle.rows.specs.Region.{kept_then, kept_more, kept_row, tab-length, tab-ext, tab-append}
use Rattle.rows.proofs.UnitLaws.{no-turn}
use Rattle.rows.proofs.CountLaws.{rows-sized}
use Rattle.rows.proofs.AppendLaws.{Mine, mine-go, mine-then}

abbrev Rows : Type 0
Rows = Result (List EqualityRow)

-- ---- every row is between the joint's bodies
module _ (joint : Joint) where
  abbrev Own : Result EqualityRow → Type 0
  Own d = Mine joint.body_a joint.body_b d

  pub distance-mine : (e : Ends) (lower : Float) → Own (distance_row joint e lower)
  unfolding distance_row
  distance-mine e lower = mine-then _ λ distance. mine-then _ λ axis. mine-then _ λ tolerance. mine-go refl refl

  pub linear-mine : (e : Ends) (local_axis : Vec3) → Own (linear_row joint e local_axis)
  unfolding linear_row
  linear-mine e local_axis = mine-then _ λ axis. mine-then _ λ angular_a. mine-then _ λ angular_b. mine-then _ λ tolerance. mine-go refl refl

  pub align-mine : (frame_a : Quat) (local_axis z : Vec3) → Own (align_row joint frame_a local_axis z)
  unfolding align_row
  align-mine frame_a local_axis z = mine-then _ λ axis. mine-then _ λ gradient. mine-go refl refl

  gradient-mine : (frame_a q : Quat) (gradient : Vec3) (scalar value : Float) → Own (gradient_row joint frame_a q gradient scalar value)
  unfolding gradient_row
  gradient-mine frame_a q gradient scalar value = mine-then _ λ angular. mine-go refl refl

  pub swing-mine : (frame_a : Quat) (r : Relative) (swing : Swing) → Own (swing_row joint frame_a r swing)
  unfolding swing_row
  swing-mine frame_a r swing = gradient-mine frame_a r.rotation _ _ _

  pub twist-mine : (frame_a : Quat) (r : Relative) (lower : Float) → Own (twist_row joint frame_a r lower)
  unfolding twist_row
  twist-mine frame_a r lower = mine-then _ λ half. mine-then _ λ _. gradient-mine frame_a r.rotation _ _ _

-- ---- the linear rows, by the axes that the code names by its literals
abbrev pub X : Vec3
X = vec (F 0x3ff0_0000_0000_0000) (F 0) (F 0)

abbrev pub Y : Vec3
Y = vec (F 0) (F 0x3ff0_0000_0000_0000) (F 0)

abbrev pub Z : Vec3
Z = vec (F 0) (F 0) (F 0x3ff0_0000_0000_0000)

module _ (joint : Joint) (e : Ends) where
  abbrev lines : Axes → Rows
  lines l = do
    x ← row_if l.x (linear_row joint e axis_x)
    y ← row_if l.y (linear_row joint e axis_y)
    z ← row_if l.z (linear_row joint e axis_z)
    go ((x ++ y) ++ z)

  lines-is : (linear : Linear) {l : Axes} → l ≡ axes_of linear → lines l ≡ linear_rows linear joint e
  unfolding linear_rows
  lines-is _ h = ap lines h

  on-axis : (locked : Bool) {v w : Vec3} {x : Rows} → v ≡ w → x ≡ row_if locked (linear_row joint e v) → x ≡ row_if locked (linear_row joint e w)
  on-axis locked h p = p ∙ ap (λ (x : Vec3). row_if locked (linear_row joint e x)) h

  module _ (linear : Linear) {l : Axes} (h : l ≡ axes_of linear) where
    pub first-lost : {f : CollisionError} → stop f ≡ row_if l.x (linear_row joint e X) → stop f ≡ linear_rows linear joint e
    first-lost x = then-stop _ (on-axis l.x axis-x-is x) ∙ lines-is linear h

    module _ {xs : List EqualityRow} (x : go xs ≡ row_if l.x (linear_row joint e X)) where
      pub second-lost : {f : CollisionError} → stop f ≡ row_if l.y (linear_row joint e Y) → stop f ≡ linear_rows linear joint e
      second-lost y = then-stop _ (on-axis l.y axis-y-is y) ∙ then-go _ (on-axis l.x axis-x-is x) ∙ lines-is linear h

      module _ {ys : List EqualityRow} (y : go ys ≡ row_if l.y (linear_row joint e Y)) where
        pub third-lost : {f : CollisionError} → stop f ≡ row_if l.z (linear_row joint e Z) → stop f ≡ linear_rows linear joint e
        third-lost z =
            then-stop _ (on-axis l.z axis-z-is z) ∙ then-go _ (on-axis l.y axis-y-is y) ∙ then-go _ (on-axis l.x axis-x-is x) ∙ lines-is linear h

        pub none-lost : {zs : List EqualityRow} → go zs ≡ row_if l.z (linear_row joint e Z) → go ((xs ++ ys) ++ zs) ≡ linear_rows linear joint e
        none-lost z =
            then-go _ (on-axis l.z axis-z-is z) ∙ then-go _ (on-axis l.y axis-y-is y) ∙ then-go _ (on-axis l.x axis-x-is x) ∙ lines-is linear h

-- ---- the rows of the axes
module _ (joint : Joint) (e : Ends) where
  abbrev across : Vec3 → Vec3 → Result EqualityRow
  across axis z = align_row joint e.frame_a axis z

  across-is : (z : Vec3) {v w : Vec3} {x : Result EqualityRow} → v ≡ w → x ≡ across v z → x ≡ across w z
  across-is z h p = p ∙ ap (λ (v : Vec3). across v z) h

  module _ {z : Vec3} (hz : go z ≡ aligned_of e.frame_a e.frame_b) where
    pub align-first-lost : {f : CollisionError} → stop f ≡ across X z → stop f ≡ align_rows joint e
    unfolding align_rows
    align-first-lost h = then-stop _ (across-is _ axis-x-is h) ∙ then-go _ hz

    module _ {x : EqualityRow} (hx : go x ≡ across X z) where
      pub align-second-lost : {f : CollisionError} → stop f ≡ across Y z → stop f ≡ align_rows joint e
      unfolding align_rows
      align-second-lost h = then-stop _ (across-is _ axis-y-is h) ∙ then-go _ (across-is _ axis-x-is hx) ∙ then-go _ hz

      pub align-none-lost : {y : EqualityRow} → go y ≡ across Y z → go (x ∷ y ∷ []) ≡ align_rows joint e
      unfolding align_rows
      align-none-lost h = then-go _ (across-is _ axis-y-is h) ∙ then-go _ (across-is _ axis-x-is hx) ∙ then-go _ hz

-- ---- where there is no tolerance, or frame a has no normalized form, the first row fails already: whatever is held, there is a linear row
-- no fault but ArithmeticOverflow
pub record Over {A : Type 0} (m : Result A) : Type 0 where
  pub only : (f : CollisionError) → stop f ≡ m → f ≡ ArithmeticOverflow

over-go : {A : Type 0} (x : A) → Over (go x)
over-go x = record { only = λ f e. let z : ◌≡◌ {A = ℕ} 0 1 = cc in absurd (omega arith) }

over-stop : {A : Type 0} → Over {A = A} (stop ArithmeticOverflow)
over-stop = record { only = λ f e. cc }

over-rotate : (q : Quat) (v : Vec3) → Over (try_rotate q v)
over-rotate q v = case (rotate_vector_of q v)
  where
    case : (o : Option Vec3) → Over (ok_or o ArithmeticOverflow)
    case (Some x) = over-go x
    case None = over-stop

over-finite : (v : Vec3) → Over (try_finite v)
unfolding try_finite
over-finite v = case (finite_of v)
  where
    case : (b : Bool) → Over (cond b (go v) (stop ArithmeticOverflow))
    case true = over-go v
    case false = over-stop

over-then : {A B : Type 0} {m : Result A} {f : A → Result B} → Over m → ((x : A) → stop ArithmeticOverflow ≡ f x) → stop ArithmeticOverflow ≡ (m >>= f)
unfolding and_then
over-then {m = go x} o h = h x
over-then {m = stop f} o h = ap stop (sym (o.only f refl))

over-length : (v : Vec3) → Over (try_length v)
over-length v = case (checked_length_of v)
  where
    case : (o : Option Float) → Over (ok_or o ArithmeticOverflow)
    case (Some x) = over-go x
    case None = over-stop

over-both : {A B : Type 0} {m : Result A} {f : A → Result B} → Over m → ((x : A) → Over (f x)) → Over (m >>= f)
unfolding and_then
over-both {m = go x} o h = h x
over-both {m = stop g} o h = record { only = λ f e. let same : f ≡ g = cc in same ∙ o.only g refl }

pub over-tolerance : (pa pb : Vec3) → Over (tolerance_of pa pb)
unfolding tolerance_of
over-tolerance pa pb = over-both (over-length pa) λ la. over-both (over-length pb) λ lb. over-go _

-- a rotation that does not normalize
pub no-unit : (q : Quat) {f : CollisionError} → stop f ≡ unit_of q → (quat_try_normalize_of q ≡ None) × (f ≡ ArithmeticOverflow)
no-unit q {f} = case (quat_try_normalize_of q)
  where
    case : (o : Option Quat) → stop f ≡ ok_or o ArithmeticOverflow → (o ≡ None) × (f ≡ ArithmeticOverflow)
    case (Some u) h = let z : ◌≡◌ {A = ℕ} 0 1 = cc in absurd (omega arith)
    case None h = (refl, cc)

module _ (joint : Joint) (e : Ends) where
  -- no tolerance, or no axis
  pub long-row : stop ArithmeticOverflow ≡ tolerance_of e.pa e.pb → (axis : Vec3) → stop ArithmeticOverflow ≡ linear_row joint e axis
  unfolding linear_row
  long-row h axis = over-then (over-rotate _ _) λ x. over-then (over-finite _) λ a. over-then (over-finite _) λ b. then-stop _ h

  pub unturned-row : quat_try_normalize_of e.frame_a ≡ None → (axis : Vec3) → stop ArithmeticOverflow ≡ linear_row joint e axis
  unfolding linear_row
  unturned-row h axis = then-stop _ (no-turn e.frame_a h axis)

  module _ (h : (axis : Vec3) → stop ArithmeticOverflow ≡ linear_row joint e axis) where
    first : (l : Axes) → l.x ≡ true → stop ArithmeticOverflow ≡ lines joint e l
    first l t = then-stop _ (then-stop (λ (r : EqualityRow). go (r ∷ [])) (h axis_x) ∙ ap (λ (b : Bool). row_if b (linear_row joint e axis_x)) (sym t))

    early : (linear : Linear) → stop ArithmeticOverflow ≡ lines joint e (axes_of linear)
    unfolding and_then
    early Point = first (axes_of Point) refl
    early Line = first (axes_of Line) refl
    early Plane = then-stop _ (then-stop (λ (r : EqualityRow). go (r ∷ [])) (h axis_z))

    pub frames_early : (linear : Linear) (turning : Turning) → stop ArithmeticOverflow ≡ frame_rows linear turning joint e
    unfolding frame_rows
    frames_early linear turning = then-stop _ (early linear ∙ lines-is joint e linear refl)

-- ---- the linear rows, those on rotations behind them, and the test of their values
module _ {joint : Joint} {i m n : ℕ} {s t u : List Float} {L M : Rows} (p : Adds joint i 3 s t (Ok m) L) (q : Adds joint (i + 14 * m) 3 t u (Ok n) M) where
  few : m ≤ 3
  few = p.within m refl

  few-behind : n ≤ 3
  few-behind = q.within n refl

  abbrev held : List Float → ℕ → ℕ → List EqualityRow
  held v place k = rows_at v place joint.body_a joint.body_b k

  abbrev row : List Float → ℕ → EqualityRow
  row v place = row_at v place joint.body_a joint.body_b

  stands : held u i (m + n) ≡ held t i m ++ held u (i + 14 * m) n
  stands =
      tab-append m n (λ k. row u (i + 14 * k))
      ∙ ap (λ (xs : List EqualityRow). xs ++ tab n (λ j. row u (i + 14 * (m + j)))) (tab-ext m front)
      ∙ ap (λ (ys : List EqualityRow). held t i m ++ ys) (tab-ext n behind)
    where
      front : (k : ℕ) → k < m → row u (i + 14 * k) ≡ row t (i + 14 * k)
      front k l = kept_row q.kept (i + 14 * k) joint.body_a joint.body_b (λ x y z. omega arith)

      behind : (j : ℕ) → j < n → row u (i + 14 * (m + j)) ≡ row u (i + 14 * m + 14 * j)
      behind j l = let same : i + 14 * (m + j) ≡ i + 14 * m + 14 * j = omega arith in ap (row u) same

  both-kept : Kept (λ k. Out i (14 * (m + n)) k) s u
  both-kept = kept_then (kept_more p.kept (λ k x. omega arith)) q.kept (λ k x. omega arith)

  abbrev finite_or : Bool → List EqualityRow → Rows
  finite_or finite rows = return_if (not finite) ArithmeticOverflow >>= λ _. go rows

  both-are : {finite : Bool} → finite ≡ finite_values (held u i (m + n))
      → finite_or finite (held u i (m + n)) ≡ (L >>= λ l. M >>= λ r. finite_or (finite_values (l ++ r)) (l ++ r))
  both-are {finite} h =
      let rows = held u i (m + n) in
      ap (λ (b : Bool). finite_or b rows) h ∙ ap (λ (xs : List EqualityRow). finite_or (finite_values xs) xs) stands
      ∙ then-go _ q.is ∙ then-go _ p.is

  module _ {finite : Bool} (h : finite ≡ finite_values (held u i (m + n))) where
    pub both-finite : finite ≡ true → Adds joint i 6 s u (Ok (m + n)) (L >>= λ l. M >>= λ r. finite_or (finite_values (l ++ r)) (l ++ r))
    unfolding and_then
    both-finite y = record {
      kept = both-kept;
      within = λ k e. let same : m + n ≡ k = cc in omega (arith, few, few-behind);
      is = ap (λ (b : Bool). finite_or b (held u i (m + n))) (sym y) ∙ both-are h;
    }

    pub both-endless : finite ≡ false
        → Adds joint i 6 s u (Err ArithmeticOverflow) (L >>= λ l. M >>= λ r. finite_or (finite_values (l ++ r)) (l ++ r))
    unfolding and_then
    both-endless y = record {
      kept = kept_more both-kept (λ k x. omega (arith, few, few-behind));
      within = λ k e. let z : ◌≡◌ {A = ℕ} 0 1 = cc in absurd (omega arith);
      is = ap (λ (b : Bool). finite_or b (held u i (m + n))) (sym y) ∙ both-are h;
    }

-- a failure of the linear rows, and of those behind them
pub along-lost : {joint : Joint} {i : ℕ} {s t : List Float} {L : Rows} (M : Rows) (C : List EqualityRow → List EqualityRow → Rows)
    {r : Result ℕ} {f : CollisionError}
    → Adds joint i 3 s t (Err f) L → r ≡ Err f → Adds joint i 6 s t r (L >>= λ l. M >>= λ m. C l m)
along-lost {joint} {i} {s} {t} {L} M C {f = f} p h =
    subst (λ (r : Result ℕ). Adds joint i 6 s t r (L >>= λ l. M >>= λ m. C l m)) (sym h) (record {
      kept = kept_more p.kept (λ k x. omega arith);
      within = λ k e. let z : ◌≡◌ {A = ℕ} 0 1 = cc in absurd (omega arith);
      is = then-stop _ p.is;
    })

pub behind-lost : {joint : Joint} {i m : ℕ} {s t u : List Float} {L M : Rows} (C : List EqualityRow → List EqualityRow → Rows)
    {r : Result ℕ} {f : CollisionError}
    → Adds joint i 3 s t (Ok m) L → Adds joint (i + 14 * m) 3 t u (Err f) M → r ≡ Err f → Adds joint i 6 s u r (L >>= λ l. M >>= λ x. C l x)
behind-lost {joint} {i} {m} {s} {u = u} {L} {M} C {f = f} p q h =
    subst (λ (r : Result ℕ). Adds joint i 6 s u r (L >>= λ l. M >>= λ x. C l x)) (sym h) (record {
      kept = kept_then (kept_more p.kept (λ k x. omega (arith, p.within m refl))) q.kept (λ k x. omega (arith, p.within m refl));
      within = λ k e. let z : ◌≡◌ {A = ℕ} 0 1 = cc in absurd (omega arith);
      is = then-stop _ q.is ∙ then-go _ p.is;
    })

-- ---- write_kind and write_equality_rows
pub adds-as : {joint : Joint} {i k k' : ℕ} {s t : List Float} {r : Result ℕ} {d d' : Rows} → k ≤ k' → d ≡ d' → Adds joint i k s t r d → Adds joint i k' s t r d'
adds-as {i = i} {k} {k'} {s} {t} {r} h e p = record { kept = kept_more p.kept (wider r); within = λ n q. omega (arith, p.within n q); is = p.is ∙ e }
  where
    wider : (r : Result ℕ) (x : ℕ) → Out i (span_of k' r) x → Out i (span_of k r) x
    wider (Ok n) x o = o
    wider (Err f) x o = omega arith

module _ (joint : Joint) (a b : MomentumBody) {e : Ends} (h : go e ≡ ends_of joint a b) where
  pub by_motions : {m : Motions} → motions_of joint.kind ≡ m → motion_rows m joint e ≡ write_equality_rows joint a b
  unfolding write_equality_rows
  by_motions k = ap (λ (x : Motions). motion_rows x joint e) (sym k) ∙ then-go _ h

abbrev AddsAll : Joint → MomentumBody → MomentumBody → ℕ → List Float → List Float → Result ℕ → Type 0
AddsAll joint a b i s t r = Adds joint i 6 s t r (write_equality_rows joint a b)

rows_of : (joint : Joint) (a b : MomentumBody) {i n : ℕ} {s t : List Float} → AddsAll joint a b i s t (Ok n) → n ≡ row_count joint.kind
rows_of joint a b {i} {n} {t = t} p = sym (tab-length n _) ∙ (rows-sized joint a b).long (rows_at t i joint.body_a joint.body_b n) p.is

clash : {x : List EqualityRow} {f : CollisionError} → ◌≡◌ {A = Rows} (go x) (stop f) → ⊥
clash e = let z : ◌≡◌ {A = ℕ} 0 1 = cc in omega arith

-- what was written stands
pub writes-rows : (joint : Joint) (a b : MomentumBody) {i : ℕ} {s t : List Float} (r : Result ℕ) → AddsAll joint a b i s t r → is_err r ≡ false
    → Writes joint a b i s t r
writes-rows joint a b {i} {s} {t} (Ok n) p h = record {
  kept = kept_more p.kept (λ k x. omega (arith, p.within n refl));
  count = λ m e. let same : m ≡ n = cc in same ∙ rows_of joint a b p;
  is = p.is;
  numbered = ap refusal_number p.is;
  behind = λ m e. let same : n ≡ m = cc in subst (λ (m : ℕ). Kept (λ k. Out i (14 * m) k) s t) same p.kept;
  cleared = λ f e. absurd (clash (p.is ∙ e));
}
writes-rows joint a b (Err f) p h = absurd (let z : ◌≡◌ {A = ℕ} 0 1 = cc in omega arith)
