-- Rows whose values are within their tolerances, and what the rows of a joint are made of.
use Rattle.std.specs.Prelude.{◌≡◌, Bool, true, false, List, [], ◌∷◌, ◌++◌, ℕ, zero, suc, ◌<◌, T, length, get_or}
use Rattle.std.proofs.Common.{sym, subst, zero-lt-suc, arith}
use Rattle.std.proofs.Math.Decide.{ℕ_discrete}
use Rattle.std.specs.Float.Ieee.{le}
use Rattle.arith.specs.Real.{abs_of}
use Rattle.arith.specs.Flow.{go, ◌>>=◌, loop, every}
use Rattle.arith.specs.FlowLaws.{every-at}
use Rattle.vectors.specs.declared.vector.Vec3.{Vec3}
use Rattle.vectors.specs.Vector.{axis_x, axis_y, axis_z}
use Rattle.rows.specs.declared.geometry.Joint.{Joint}
use Rattle.rows.specs.declared.geometry.Linear.{Linear}
use Rattle.rows.specs.declared.geometry.Turning.{Turning}
use Rattle.rows.specs.declared.geometry.EqualityRow.{EqualityRow}
use Rattle.rows.specs.declared.geometry.Ends.{Ends}
use Rattle.rows.specs.Fault.{Result}
use Rattle.rows.specs.Geometry.{linear_row, row_if, axes_of, linear_rows, align_rows, turning_rows, frame_rows}
use Rattle.rows.specs.Laws.Results.{step, go_same, Facing, facing, Across, across}

-- row.value.abs() <= row.tolerance
abbrev pub row_within : EqualityRow → Bool
row_within row = le (abs_of row.value) row.tolerance

abbrev pub RowsIn : List EqualityRow → Type 0
RowsIn [] = Unit {0}
RowsIn (row ∷ rows) = T (row_within row) × RowsIn rows

pub rows_split : (xs ys : List EqualityRow) → RowsIn (xs ++ ys) → RowsIn xs × RowsIn ys
rows_split [] ys h = (tt, h)
rows_split (x ∷ xs) ys h = let r = rows_split xs ys h.1 in ((h.0, r.0), r.1)

-- by index
pub rows_at : (none : EqualityRow) (rows : List EqualityRow) → ((k : ℕ) → k < length rows → T (row_within (get_or rows k none))) → RowsIn rows
rows_at none [] f = tt
rows_at none (row ∷ rows) f = (f 0 (zero-lt-suc (length rows)), rows_at none rows (λ k h. f (suc k) (omega arith)))

-- as the loop of the step tests them
pub rows-met : (none : EqualityRow) (rows : List EqualityRow) → true ≡ every (length rows) (λ k. row_within (get_or rows k none)) → RowsIn rows
rows-met none rows h = rows_at none rows (λ k l. subst T (sym (every-at (λ k. row_within (get_or rows k none)) (length rows) h l)) tt)

-- ---- the rows of all joints, one list behind the other: each joint's are among them
pub record Each (r : Result (List EqualityRow)) : Type 0 where
  pub rows : List EqualityRow
  pub is : r ≡ go rows
  pub within : RowsIn rows

pub rows-each : (f : ℕ → Result (List EqualityRow)) (n : ℕ) (rows : List EqualityRow)
    → loop n (λ k before. f k >>= λ local. go (before ++ local)) [] ≡ go rows → RowsIn rows → (k : ℕ) → k < n → Each (f k)
unfolding loop
rows-each f zero rows h w k l = absurd (omega arith)
rows-each f (suc n) rows h w k l =
    let r₁ = step (loop n (λ k before. f k >>= λ local. go (before ++ local)) []) (λ before. f n >>= λ local. go (before ++ local)) rows h in
    let r₂ = step (f n) (λ local. go (r₁.0 ++ local)) rows r₁.2 in
    let s = rows_split r₁.0 r₂.0 (subst RowsIn (sym (go_same (r₁.0 ++ r₂.0) rows r₂.2)) w) in
    pick (ℕ_discrete k n) (record { rows = r₂.0; is = r₂.1; within = s.1 }) (rows-each f n r₁.0 r₁.1 s.0 k)
  where
    pick : Dec (k ≡ n) → Each (f n) → (k < n → Each (f k)) → Each (f k)
    pick (yes e) last before = subst (λ (i : ℕ). Each (f i)) (sym e) last
    pick (no e) last before = before (omega arith)

-- ---- a row that a definition gives, and that is within its tolerance
pub record Found (r : Result EqualityRow) : Type 0 where
  pub row : EqualityRow
  pub is : r ≡ go row
  pub within : T (row_within row)

found-if : (locked : Bool) (r : Result EqualityRow) (l : List EqualityRow) → row_if locked r ≡ go l → RowsIn l → T locked → Found r
found-if false r l h w t = absurd t
found-if true r l h w t =
    let s = step r (λ (row : EqualityRow). go (row ∷ [])) l h in
    record { row = s.0; is = s.1; within = (subst RowsIn (sym (go_same (s.0 ∷ []) l s.2)) w).0 }

pub record OnAxes (linear : Linear) (joint : Joint) (e : Ends) : Type 0 where
  pub on-x : T (axes_of linear).x → Found (linear_row joint e axis_x)
  pub on-y : T (axes_of linear).y → Found (linear_row joint e axis_y)
  pub on-z : T (axes_of linear).z → Found (linear_row joint e axis_z)

on-axes : (linear : Linear) (joint : Joint) (e : Ends) (l : List EqualityRow) → linear_rows linear joint e ≡ go l → RowsIn l → OnAxes linear joint e
unfolding linear_rows
on-axes linear joint e l h w =
    let r₁ = step _ _ l h in
    let r₂ = step _ _ l r₁.2 in
    let r₃ = step _ _ l r₂.2 in
    let s = rows_split (r₁.0 ++ r₂.0) r₃.0 (subst RowsIn (sym (go_same ((r₁.0 ++ r₂.0) ++ r₃.0) l r₃.2)) w) in
    let s' = rows_split r₁.0 r₂.0 s.0 in
    record {
      on-x = found-if (axes_of linear).x (linear_row joint e axis_x) r₁.0 r₁.1 s'.0;
      on-y = found-if (axes_of linear).y (linear_row joint e axis_y) r₂.0 r₂.1 s'.1;
      on-z = found-if (axes_of linear).z (linear_row joint e axis_z) r₃.0 r₃.1 s.1;
    }

-- ---- the rows of a joint that is no rod
pub record Framed (linear : Linear) (turning : Turning) (joint : Joint) (e : Ends) : Type 0 where
  pub along : OnAxes linear joint e
  pub angular : List EqualityRow
  pub angular-is : turning_rows turning joint e ≡ go angular
  pub within : RowsIn angular

module _ (linear : Linear) (turning : Turning) (joint : Joint) (e : Ends) where
  pub framed : (rows : List EqualityRow) → frame_rows linear turning joint e ≡ go rows → RowsIn rows → Framed linear turning joint e
  unfolding frame_rows
  framed rows h w =
      let r₁ = step _ _ rows h in
      let r₂ = step _ _ rows r₁.2 in
      let r₃ = step _ _ rows r₂.2 in
      let s = rows_split r₁.0 r₂.0 (subst RowsIn (sym (go_same (r₁.0 ++ r₂.0) rows r₃.2)) w) in
      record { along = on-axes linear joint e r₁.0 r₁.1 s.0; angular = r₂.0; angular-is = r₂.1; within = s.1 }

-- ---- the two rows across
pub record Aligns (joint : Joint) (e : Ends) : Type 0 where
  pub z : Vec3
  pub face : Facing e.frame_a e.frame_b z
  pub x : EqualityRow
  pub y : EqualityRow
  pub x-across : Across e.frame_a axis_x z x
  pub y-across : Across e.frame_a axis_y z y
  pub x-within : T (row_within x)
  pub y-within : T (row_within y)

pub aligns : (joint : Joint) (e : Ends) (rows : List EqualityRow) → align_rows joint e ≡ go rows → RowsIn rows → Aligns joint e
unfolding align_rows
aligns joint e rows h w =
    let r₁ = step _ _ rows h in
    let r₂ = step _ _ rows r₁.2 in
    let r₃ = step _ _ rows r₂.2 in
    let s = subst RowsIn (sym (go_same (r₂.0 ∷ r₃.0 ∷ []) rows r₃.2)) w in
    record {
      z = r₁.0;
      face = facing e.frame_a e.frame_b r₁.0 r₁.1;
      x = r₂.0;
      y = r₃.0;
      x-across = across joint e.frame_a axis_x r₁.0 r₂.0 r₂.1;
      y-across = across joint e.frame_a axis_y r₁.0 r₃.0 r₃.1;
      x-within = s.0;
      y-within = s.1.0;
    }
