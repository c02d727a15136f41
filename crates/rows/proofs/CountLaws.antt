-- How many rows a joint has: the definition's list is as long as `row_count` says, and so the code counts.
use Rattle.std.specs.Int.{from_bool}
use Prim.Native.Nat.{ℕ, ◌+◌, ◌≤◌}
use mathlib.Core.Path.{◌≡◌, refl, ◌∙◌, ap}
use mathlib.Core.Bool.{Bool, true, false}
use mathlib.Core.List.{List, [], ◌∷◌, ◌++◌}
use native.Mathlib.Omega.{arith}
use lib.Ieee as Ieee
use lib.Ieee.{Float}
use lib.ListN.{length, length-append}
use Rattle.arith.specs.Real.{F}
use Rattle.arith.specs.Flow.{go, stop, and_then, ◌>>=◌}
use Rattle.vectors.specs.Vector.{axis_x, axis_y, axis_z}
use Rattle.rows.specs.declared.body.MomentumBody.{MomentumBody}
use Rattle.rows.specs.declared.geometry.Joint.{Joint}
use Rattle.rows.specs.declared.geometry.Linear.{Linear}
use Rattle.rows.specs.declared.geometry.Linear.TheVariants.{Point, Line, Plane}
use Rattle.rows.specs.declared.geometry.Turning.{Turning}
use Rattle.rows.specs.declared.geometry.Turning.TheVariants as Turns
use Rattle.rows.specs.declared.geometry.Motions.{Motions}
use Rattle.rows.specs.declared.geometry.Motions.TheVariants.{Rod, Frame}
use Rattle.rows.specs.declared.geometry.EqualityRow.{EqualityRow}
use Rattle.rows.specs.declared.geometry.Ends.{Ends}
use Rattle.rows.specs.Fault.{CollisionError, Result}
use Rattle.rows.specs.Motions.{motions_of}
use Rattle.rows.specs.Geometry.{linear_row, row_if, linear_rows}
use Rattle.rows.specs.Geometry.{swing_locked, cone_rows, align_rows, turning_rows}
use Rattle.rows.specs.Geometry.{frame_rows, motion_rows, write_equality_rows}
use Rattle.rows.specs.Count.{one_if, linear_count, turning_count, motion_count, row_count}
use Rattle.arith.specs.Laws.Constants.{zero_is}

abbrev Rows : Type 0
Rows = Result (List EqualityRow)

pub record Sized (n : ℕ) (d : Rows) : Type 0 where
  pub long : (rows : List EqualityRow) → go rows ≡ d → length rows ≡ n

abbrev listed : List EqualityRow → Rows
listed rows = go rows

listed-is : {x y : List EqualityRow} → listed x ≡ listed y → x ≡ y
listed-is e = cc

sized-go : {n : ℕ} (rows : List EqualityRow) → length rows ≡ n → Sized n (go rows)
sized-go rows e = record { long = λ x h. ap length (listed-is h) ∙ e }

sized-stop : {n : ℕ} (f : CollisionError) → Sized n (stop f)
sized-stop f = record { long = λ x e. let z : ◌≡◌ {A = ℕ} 0 1 = cc in absurd (omega arith) }

sized-then : {A : Type 0} {n : ℕ} (m : Result A) {f : A → Rows} → ((x : A) → Sized n (f x)) → Sized n (m >>= f)
unfolding and_then
sized-then (go x) {f} h = h x
sized-then (stop e) {f} h = sized-stop e

sized_rows : {k n : ℕ} {m : Rows} {f : List EqualityRow → Rows} → Sized k m → ((x : List EqualityRow) → length x ≡ k → Sized n (f x)) → Sized n (m >>= f)
unfolding and_then
sized_rows {m = go x} {f} s h = h x (s.long x refl)
sized_rows {m = stop e} {f} s h = sized-stop e

sized-if : (locked : Bool) (D : Result EqualityRow) → Sized (one_if locked) (row_if locked D)
unfolding one_if
sized-if true D = sized-then D λ row. sized-go (row ∷ []) refl
sized-if false D = sized-go [] refl

sized-3 : (p q o : Bool) (X Y Z : Result EqualityRow)
    → Sized (one_if p + one_if q + one_if o) (row_if p X >>= λ x. row_if q Y >>= λ y. row_if o Z >>= λ z. go ((x ++ y) ++ z))
sized-3 p q o X Y Z = sized_rows (sized-if p X) λ x l. sized_rows (sized-if q Y) λ y m. sized_rows (sized-if o Z) λ z n.
    sized-go _ (length-append (x ++ y) z ∙ ap (λ (k : ℕ). k + length z) (length-append x y) ∙ omega arith)

module _ (joint : Joint) (e : Ends) where
  linear-sized : (linear : Linear) → Sized (linear_count linear) (linear_rows linear joint e)
  unfolding linear_rows one_if
  linear-sized Point = sized-3 true true true (linear_row joint e axis_x) (linear_row joint e axis_y) (linear_row joint e axis_z)
  linear-sized Line = sized-3 true true false (linear_row joint e axis_x) (linear_row joint e axis_y) (linear_row joint e axis_z)
  linear-sized Plane = sized-3 false false true (linear_row joint e axis_x) (linear_row joint e axis_y) (linear_row joint e axis_z)

  align-sized : Sized 2 (align_rows joint e)
  unfolding align_rows
  align-sized = sized-then _ λ z. sized-then _ λ x. sized-then _ λ y. sized-go _ refl

  turning-sized : (turning : Turning) → Sized (turning_count turning) (turning_rows turning joint e)
  unfolding cone_rows
  turning-sized Turns.Free = sized-go [] refl
  turning-sized Turns.Align = align-sized
  turning-sized (Turns.Cone cone) = sized-then _ λ r. sized-3 _ _ _ _ _ _

  frame-sized : (linear : Linear) (turning : Turning) → Sized (linear_count linear + turning_count turning) (frame_rows linear turning joint e)
  unfolding frame_rows
  frame-sized linear turning = sized_rows (linear-sized linear) λ l p. sized_rows (turning-sized turning) λ m q. sized-then _ λ _.
      sized-go _ (length-append l m ∙ omega arith)

  motion-sized : (motions : Motions) → Sized (motion_count motions) (motion_rows motions joint e)
  motion-sized (Rod length) = sized-then _ λ row. sized-go (row ∷ []) refl
  motion-sized (Frame linear turning) = frame-sized linear turning

pub rows-sized : (joint : Joint) (a b : MomentumBody) → Sized (row_count joint.kind) (write_equality_rows joint a b)
unfolding write_equality_rows
rows-sized joint a b = sized-then _ λ e. motion-sized joint e (motions_of joint.kind)

-- ---- as the code counts them
-- ---- a test as a number
pub one-as : {n : ℕ} (b : Bool) → n ≡ from_bool b → (n ≡ one_if b) × (n ≤ 1)
unfolding one_if
one-as true h = (h, omega arith)
one-as false h = (h, omega arith)

-- of a swing's limit, which the code compares with its own zero
pub swing-as : {n : ℕ} (limit : Float) → n ≡ from_bool (Ieee.eq limit (F 0)) → (n ≡ one_if (swing_locked limit)) × (n ≤ 1)
swing-as limit h = one-as (swing_locked limit) (h ∙ ap (λ (zero : Float). from_bool (Ieee.eq limit zero)) zero_is)
