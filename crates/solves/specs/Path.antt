-- solver.rs, fn path_solve up to its refinements. A path's Schur matrix is block tridiagonal once its rows are ordered along the path, and a
-- Cholesky factor of band 12 solves it.
use Rattle.std.specs.Prelude.{ℕ, ◌+◌, ◌*◌, ◌-◌, min, List, [], ◌∷◌, ◌++◌, Bool, true, false, cond, not, ◌&&◌, ◌||◌, length, get_or, set, replicate, eqb, Float}
use Rattle.std.specs.Prelude.{Option, Some, None, is_none}
use Rattle.solves.specs.Words.{binary64, le, ◌⊕◌, ◌⊖◌, ◌⊗◌, ◌⊘◌, ratio, is_finite, sqrt, go, stop, ◌>>=◌, turns, loop, tab, each, return_if, Turn}
use Rattle.solves.specs.Words.{at, EqualityRow, NonConvergent, Result, MassResponse, RowBlock, Ends, NoPath}
use Rattle.solves.specs.System.{System, rows_in}
use Rattle.solves.specs.Solver.{row_in, operator, cross_mass, difference}

abbrev pub index : List ℕ → ℕ → ℕ  -- l[i]
index l i = get_or l i 0

abbrev pub declined : NoPath  -- Ok(false)
declined = record {}

abbrev pub no_block : RowBlock  -- what a list of blocks has past its end
no_block = record { a = 0; b = 0; start = 0; end = 0 }

abbrev pub block_at : List RowBlock → ℕ → RowBlock  -- self.path_blocks[k]
block_at blocks k = get_or blocks k no_block

-- self.path_blocks: runs of rows on one pair of bodies; a and b are the bodies of the rows
abbrev pub on_pair : ℕ → ℕ → RowBlock → Bool  -- block.a == row.a && block.b == row.b
on_pair x y block = eqb block.a x && eqb block.b y

abbrev pub to_row : ℕ → RowBlock → RowBlock  -- block.end = i + 1
to_row i block = record { a = block.a; b = block.b; start = block.start; end = i + 1 }

unfoldable pub note_row : ℕ → ℕ → ℕ → List RowBlock → List RowBlock  -- row i, on x and y, ends the last block, or begins one
note_row x y i blocks =
    let last : RowBlock = block_at blocks (length blocks - 1) in
    cond (not (eqb (length blocks) 0) && on_pair x y last)
    (set blocks (length blocks - 1) (to_row i last))
    (blocks ++ (record { a = x; b = y; start = i; end = i + 1 } ∷ []))

unfoldable pub path_blocks : List ℕ → List ℕ → ℕ → List RowBlock
path_blocks a b n = turns (λ i. note_row (index a i) (index b i) i) n []

-- self.path_edges: two places a body
abbrev pub no_ends : Ends  -- None is usize::MAX in the Rust
no_ends = record { first = None; second = None }

abbrev pub full_ends : Ends  -- what the edges have past the last body: no room
full_ends = record { first = Some 0; second = Some 0 }

abbrev pub ends_at : List Ends → ℕ → Ends
ends_at edges body = get_or edges body full_ends

unfoldable pub with_block : Ends → ℕ → Turn Ends NoPath  -- a third block on a body declines the path
with_block ends block = elim ends.first [
  | None ↦ go (record { first = Some block; second = ends.second })
  | Some x ↦ elim ends.second [ None ↦ go (record { first = ends.first; second = Some block }) | Some y ↦ stop declined ]
]

unfoldable pub add_edge : ℕ → ℕ → List Ends → Turn (List Ends) NoPath
add_edge body block edges = with_block (ends_at edges body) block >>= λ ends. go (set edges body ends)

unfoldable pub block_edges : List RowBlock → ℕ → List Ends → Turn (List Ends) NoPath
block_edges blocks k edges = add_edge (block_at blocks k).a k edges >>= add_edge (block_at blocks k).b k

unfoldable pub path_edges : List RowBlock → Turn (List Ends) NoPath
path_edges blocks = loop (length blocks) (block_edges blocks) (replicate 16 no_ends)

unfoldable pub other_block : Ends → ℕ → Option ℕ  -- the other block on a body
other_block ends block = elim ends.first [ Some x ↦ cond (eqb x block) ends.second (Some x) | None ↦ None ]

unfoldable pub neighbor : List Ends → ℕ → ℕ → Option ℕ
neighbor edges body block = other_block (ends_at edges body) block

unfoldable pub follows : Option ℕ → Option ℕ → Bool  -- *next != usize::MAX && *next != previous
follows None previous = false
follows (Some x) None = true
follows (Some x) (Some y) = not (eqb x y)

unfoldable pub next_block : Option ℕ → Option ℕ → Option ℕ → Option ℕ  -- .find(follows)
next_block x y previous = cond (follows x previous) x (cond (follows y previous) y None)

pub record Seen : Type 0 where  -- self.path_order, and self.path_visited
  pub order : List ℕ
  pub visited : List Bool

abbrev pub none_seen : Seen
none_seen = record { order = []; visited = replicate 96 false }

pub record Walk : Type 0 where
  pub seen : Seen
  pub current : ℕ
  pub previous : Option ℕ

abbrev pub run : ℕ → ℕ → List ℕ  -- from..to
run from to = tab (to - from) (λ k. from + k)

unfoldable pub visit : ℕ → RowBlock → Seen → Seen
visit k block seen = record { order = seen.order ++ run block.start block.end; visited = set seen.visited k true }

abbrev pub walked : Turn Walk (Turn Seen NoPath) → Turn Seen NoPath  -- after as many turns as there are blocks the next one was visited
walked turns = elim turns [ go w ↦ stop declined | stop seen ↦ seen ]

abbrev pub turn_to : Seen → ℕ → Option ℕ → Turn Walk (Turn Seen NoPath)  -- on to the next block; where there is none the walk is at its end
turn_to seen current None = stop (go seen)
turn_to seen current (Some next) = go (record { seen = seen; current = next; previous = Some current })

module _ (blocks : List RowBlock) (edges : List Ends) where
  abbrev pub neighbors : ℕ → Option ℕ × Option ℕ
  neighbors k = (neighbor edges (block_at blocks k).a k, neighbor edges (block_at blocks k).b k)

  abbrev pub next_at : ℕ → Option ℕ → Option ℕ
  next_at k previous = next_block (neighbors k).0 (neighbors k).1 previous

  -- one turn of the loop along a path: a visited block declines
  unfoldable pub walk_turn : ℕ → Walk → Turn Walk (Turn Seen NoPath)
  walk_turn k w = do
    let seen : Seen = visit w.current (block_at blocks w.current) w.seen
    _ ← return_if (get_or w.seen.visited w.current false) (stop declined)
    turn_to seen w.current (next_at w.current w.previous)

  unfoldable pub walk : ℕ → Seen → Turn Seen NoPath
  walk first seen = walked (loop (length blocks) walk_turn (record { seen = seen; current = first; previous = None }))

  unfoldable pub is_end : List Bool → ℕ → Bool  -- a block that was not visited and has no neighbor on one of its bodies
  is_end visited k = not (get_or visited k false) && (is_none (neighbors k).0 || is_none (neighbors k).1)

  unfoldable pub walk_from : ℕ → Seen → Turn Seen NoPath
  walk_from first seen = cond (is_end seen.visited first) (walk first seen) (go seen)

  unfoldable pub path_walks : Turn Seen NoPath
  path_walks = loop (length blocks) walk_from none_seen

unfoldable pub path_order : List ℕ → List ℕ → ℕ → Turn (List ℕ) NoPath  -- the rows along the paths, or declined
path_order a b n = do
  let blocks = path_blocks a b n
  edges ← path_edges blocks
  seen ← path_walks blocks edges
  _ ← return_if (not (eqb (length seen.order) n)) declined
  go seen.order

abbrev pub band_cell : List Float → ℕ → ℕ → Float  -- path_band[i][d]: twelve doubles a row, one row after the other
band_cell band i d = at band (12 * i + d)

abbrev pub band_start : ℕ → ℕ  -- i.saturating_sub(BAND_WIDTH - 1)
band_start i = i - 11

abbrev pub less_products : (ℕ → Float) → (ℕ → Float) → ℕ → Float → Float  -- for t in 0..terms { value -= x(t) * y(t); }
less_products x y terms value = turns (λ t value. value ⊖ x t ⊗ y t) terms value

unfoldable pub reduced : List Float → ℕ → ℕ → Float → Float  -- for k in band_start..j { value -= path_band[i][i - k] * path_band[j][j - k]; }
reduced band i j value = less_products (λ t. band_cell band i (i - (band_start i + t))) (λ t. band_cell band j (j - (band_start i + t)))
    (j - band_start i) value

pub record Factor : Type 0 where  -- self.path_scale and self.path_band
  pub scale : List Float
  pub band : List Float

module _ (rows : List EqualityRow) (masses : List MassResponse) (order : List ℕ) where
  abbrev pub row_of : ℕ → EqualityRow  -- rows[path_order[i]]
  row_of i = row_in rows (index order i)

  unfoldable pub scale_at : ℕ → Result Float
  scale_at i = do
    value ← cross_mass (row_of i) (row_of i) masses
    _ ← return_if (le value (ratio 0 1)) NonConvergent
    go (sqrt binary64 value)

  abbrev pub path_scale : ℕ → Result (List Float)
  path_scale n = each n scale_at

  unfoldable pub path_entry : List Float → ℕ → ℕ → List Float → Result (List Float)
  path_entry scale i j band = do
    entry ← cross_mass (row_of i) (row_of j) masses
    let value : Float = reduced band i j (entry ⊘ (at scale i ⊗ at scale j)) in
        cond (eqb j i)
        (cond (not (is_finite value) || le value (ratio 0 1)) (stop NonConvergent) (go (set band (12 * i) (sqrt binary64 value))))
        (go (set band (12 * i + (i - j)) (value ⊘ band_cell band j 0)))

  unfoldable pub path_row : List Float → ℕ → List Float → Result (List Float)  -- for j in band_start..=i
  path_row scale i band = loop (i + 1 - band_start i) (λ t band. path_entry scale i (band_start i + t) band) band

  unfoldable pub path_factor : List Float → ℕ → Result (List Float)
  path_factor scale n = loop n (path_row scale) (replicate (12 * n) (ratio 0 1))

  unfoldable pub path_factored : ℕ → Result Factor
  path_factored n = do
    scale ← path_scale n
    band ← path_factor scale n
    go (record { scale = scale; band = band })

-- y is self.path_rhs
unfoldable pub forward_sum : List Float → List Float → ℕ → Float → Float  -- for j in band_start..i { value -= path_band[i][i - j] * path_rhs[j]; }
forward_sum band y i value = less_products (λ t. band_cell band i (i - (band_start i + t))) (λ t. at y (band_start i + t)) (i - band_start i) value

unfoldable pub backward_sum : ℕ → List Float → List Float → ℕ → Float → Float  -- for j in i + 1..n.min(i + BAND_WIDTH) { value -= .. * path_rhs[j]; }
backward_sum n band y i value = less_products (λ t. band_cell band (i + 1 + t) (i + 1 + t - i)) (λ t. at y (i + 1 + t)) (min n (i + 12) - (i + 1)) value

pub record Back : Type 0 where
  pub y : List Float
  pub solution : List Float

module _ (n : ℕ) (order : List ℕ) (scale band : List Float) where
  abbrev pub forward_turn : List Float → ℕ → List Float → List Float  -- path_rhs[i] = value / path_band[i][0]
  forward_turn residual i y = y ++ (forward_sum band y i (at residual (index order i) ⊘ at scale i) ⊘ band_cell band i 0 ∷ [])

  unfoldable pub forward : List Float → List Float
  forward residual = turns (forward_turn residual) n []

  -- for i in (0..n).rev() { path_rhs[i] = value / path_band[i][0]; solution[path_order[i]] += path_rhs[i] / path_scale[i]; }
  unfoldable pub backward_turn : ℕ → Back → Back
  backward_turn k s =
      let i : ℕ = n - 1 - k in let value : Float = backward_sum n band s.y i (at s.y i) ⊘ band_cell band i 0 in
      record { y = set s.y i value; solution = set s.solution (index order i) (at s.solution (index order i) ⊕ value ⊘ at scale i) }

  unfoldable pub backward : List Float → List Float → List Float
  backward y solution = (turns backward_turn n (record { y = y; solution = solution })).solution

pub record Refined : Type 0 where
  pub solution : List Float
  pub residual : List Float

unfoldable pub refine : System → List Float → List ℕ → Factor → Refined → Result Refined  -- fn path_solve: the residual solved for and added, and taken again
refine system rhs order factor s =
    let n : ℕ = rows_in system in let y : List Float = forward n order factor.scale factor.band s.residual in
    let solution : List Float = backward n order factor.scale factor.band y s.solution in do
      product ← operator system solution
      go (record { solution = solution; residual = difference rhs product })
