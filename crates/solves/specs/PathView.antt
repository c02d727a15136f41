-- The path's integers in the lent arrays as plain values, what its functions say of them, and the doubles of its sums.
use Rattle.std.specs.Prelude.{ℕ, ◌+◌, ◌*◌, ◌-◌, ◌≤◌, ◌<◌, ◌≡◌, Option, Some, List, ◌++◌, length, get_or, take, sum_by, IfOk, Float}
use Rattle.arith.specs.Flow.{Turn, leaving}
use Rattle.rows.specs.declared.geometry.EqualityRow.{EqualityRow}
use Rattle.rows.specs.Fault.{Result}
use Rattle.rows.specs.View.{at, Out}
use Rattle.solves.specs.declared.joined.Path.{Path}
use Rattle.solves.specs.declared.places.MassResponse.{MassResponse}
use Rattle.solves.specs.declared.order.RowBlock.{RowBlock}
use Rattle.solves.specs.declared.order.Ends.{Ends}
use Rattle.solves.specs.declared.order.NoPath.{NoPath}
use Rattle.solves.specs.declared.path.Line.{Line}
use Rattle.solves.specs.Path.{block_at, ends_at, run}
use Rattle.solves.specs.Answer.{order_as}
use Rattle.solves.specs.Region.{vec_at, Does}
use Rattle.solves.specs.View.{count_of, system_at, order_in, list_of_first, Along, Blank, band_at, PATH_BAND, BAND, PATH_SCALE, PATH_RHS, END}

-- the first n rows are on bodies below 16
abbrev pub Bodies : List ℕ → ℕ → Type 0
Bodies l n = (k : ℕ) → k < n → get_or l k 0 < 16

-- ---- blocks
abbrev pub size_of : RowBlock → ℕ
size_of block = block.end - block.start

abbrev pub rows_of : List RowBlock → ℕ
rows_of blocks = sum_by size_of blocks

-- a block of the first n rows
pub record BlockIn (n : ℕ) (block : RowBlock) : Type 0 where
  pub rising : block.start ≤ block.end
  pub inside : block.end ≤ n
  pub a-there : block.a < 16
  pub b_there : block.b < 16

pub record Blocked (blocks : List RowBlock) : Type 0 where
  pub most : rows_of blocks ≤ 96
  pub few : length blocks ≤ rows_of blocks
  pub each : (k : ℕ) → k < length blocks → BlockIn (rows_of blocks) (block_at blocks k)

-- ---- edges
-- if it is a block it is one of the first m
abbrev pub Linked : ℕ → Option ℕ → Type 0
Linked m x = (k : ℕ) → x ≡ Some k → k < m

pub record EndsIn (m : ℕ) (ends : Ends) : Type 0 where
  pub first : Linked m ends.first
  pub second : Linked m ends.second

pub record Linking (m : ℕ) (edges : List Ends) : Type 0 where
  pub size : length edges ≡ 16
  pub each : (body : ℕ) → body < 16 → EndsIn m (ends_at edges body)

-- blocks and their edges, which every walk goes along
pub record Sound (blocks : List RowBlock) (edges : List Ends) : Type 0 where
  pub blocked : Blocked blocks
  pub linking : Linking (length blocks) edges

-- `note_row` and `path_blocks`: so many blocks at the head of a table
pub record Noted (table : List RowBlock) (number : ℕ) (defined : List RowBlock) : Type 0 where
  pub number_is : number ≡ length defined
  pub is : take number table ≡ defined

-- `append`: the rows from..to stand behind those listed before, and behind them the table is as it was
pub record Appended (before : List ℕ) (listed from to : ℕ) (after : List ℕ) (r : ℕ) : Type 0 where
  pub size : length after ≡ length before
  pub longer : r ≡ listed + (to - from)
  pub is : list_of_first after r ≡ list_of_first before listed ++ run from to
  pub rest : (j : ℕ) → r ≤ j → get_or after j 0 ≡ get_or before j 0

-- `path_order` of n rows: a path's order lists n rows below n, and behind them its table is 0
pub record Ordered (n : ℕ) (result : Turn (List ℕ) NoPath) (defined : Turn (List ℕ) NoPath) : Type 0 where
  pub is : order_as result n ≡ defined
  pub along : IfOk result (λ rows. Along rows n)
  pub blank : IfOk result (λ rows. Blank rows n)

-- ---- the factor's definitions on the scratch and the order at entry
abbrev pub along : {A : Type 0} → List Float → Path → (List EqualityRow → List MassResponse → List ℕ → A) → A
along s path f = f (system_at s path.rows).rows (system_at s path.rows).masses (order_in path)

-- the band at exit is what f says of the scales and the band at entry, and no more than the band is touched
abbrev pub Bands : List Float → List Float → Path → Result (Unit {0})
    → (List EqualityRow → List MassResponse → List ℕ → List Float → List Float → Result (List Float)) → Type 0
Bands s s' path r f =
    Does (Out PATH_BAND BAND) s s' (leaving r (band_at s' (count_of path.rows)))
    (along s path f (vec_at s PATH_SCALE (count_of path.rows)) (band_at s (count_of path.rows)))

-- a sweep of the factor at entry
abbrev pub sweep : {A : Type 0} → List Float → Path → (ℕ → List ℕ → List Float → List Float → A) → A
sweep s path f = f (count_of path.rows) (order_in path) (vec_at s PATH_SCALE (count_of path.rows)) (band_at s (count_of path.rows))

-- ---- the doubles of a sum
-- where number t of a line stands
abbrev pub place_of : Line → ℕ → ℕ
place_of line t = line.first + line.on * t - line.back * t

abbrev pub line_at : List Float → Line → ℕ → Float
line_at s line t = at s (place_of line t)

-- number t of a line stands in the scratch, and so do the first `terms` of two lines
abbrev pub InLine : Line → ℕ → Type 0
InLine line t = (line.back * t ≤ line.first + line.on * t) × (line.first + line.on * t < END)

pub record LinesIn (s : List Float) (a b : Line) (terms : ℕ) : Type 0 where
  pub whole : END ≤ length s
  pub first : (t : ℕ) → t < terms → InLine a t
  pub second : (t : ℕ) → t < terms → InLine b t

-- path_band[i][i - k], path_band[k][k - i] and path_rhs[k], for k from `from` on
abbrev pub row_line : ℕ → ℕ → Line
row_line i from = record { first = PATH_BAND + 12 * i + (i - from); on = 0; back = 1 }

abbrev pub column_line : ℕ → ℕ → Line
column_line i from = record { first = PATH_BAND + 12 * from + (from - i); on = 13; back = 0 }

abbrev pub side_line : ℕ → Line
side_line from = record { first = PATH_RHS + from; on = 1; back = 0 }
