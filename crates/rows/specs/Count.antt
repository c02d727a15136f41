-- How many rows a joint has, by what its kind holds.
use Rattle.std.specs.Prelude.{ℕ, ◌+◌, Bool, true, false}
use Rattle.rows.specs.declared.geometry.Kind.{Kind}
use Rattle.rows.specs.declared.geometry.Linear.{Linear}
use Rattle.rows.specs.declared.geometry.Linear.TheVariants.{Point, Line, Plane}
use Rattle.rows.specs.declared.geometry.Turning.{Turning}
use Rattle.rows.specs.declared.geometry.Motions.{Motions}
use Rattle.rows.specs.declared.geometry.Motions.TheVariants.{Rod, Frame}
use Rattle.rows.specs.Motions.{motions_of}
use Rattle.rows.specs.Geometry.{swing_locked, twist_locked}

unfoldable pub one_if : Bool → ℕ
one_if true = 1
one_if false = 0

abbrev pub linear_count : Linear → ℕ
linear_count Point = 3
linear_count Line = 2
linear_count Plane = 1

abbrev pub turning_count : Turning → ℕ
turning_count Turning.Free = 0
turning_count Turning.Align = 2
turning_count (Turning.Cone cone) = one_if (swing_locked cone.swing_x) + one_if (swing_locked cone.swing_y) + one_if (twist_locked cone)

abbrev pub motion_count : Motions → ℕ
motion_count (Rod length) = 1
motion_count (Frame linear turning) = linear_count linear + turning_count turning

abbrev pub row_count : Kind → ℕ
row_count kind = motion_count (motions_of kind)
