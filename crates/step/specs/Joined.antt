-- What the refusals leave for a run: joints on bodies that are there.
use Rattle.std.specs.Prelude.{ℕ, ◌+◌, ◌*◌, ◌/◌, ◌≤◌, ◌<◌, ◌≡◌, get_or, List}
use Rattle.rows.specs.declared.geometry.Joint.{Joint}
use Rattle.solves.specs.Layout.{BODIES_MOST}
use Rattle.step.specs.Layout.{RECORD, SCRATCH}
use Rattle.step.specs.Checks.{joint_in}

-- at most 16 joints, on at most 16 bodies
pub record Joined (joints : List Joint) (count body-count : ℕ) : Type 0 where
  pub few : count ≤ 16
  pub small : body-count ≤ 16
  pub a-there : (k : ℕ) → k < count → (joint_in joints k).body_a < body-count
  pub b_there : (k : ℕ) → k < count → (joint_in joints k).body_b < body-count

-- the numbers of 2 to 4 are in range
pub record Sizes (doubles count scratch : ℕ) : Type 0 where
  pub small : doubles / RECORD ≤ BODIES_MOST
  pub few : count ≤ 16
  pub room : SCRATCH ≤ scratch

-- the bodies of n rows, as many for each joint as its kind has
pub record RowBodies (joints : List Joint) (count n : ℕ) (ia ib : List ℕ) : Type 0 where
  pub most : n ≤ 6 * count
  pub a-there : (body-count : ℕ) → Joined joints count body-count → (k : ℕ) → k < n → get_or ia k 0 < body-count
  pub b_there : (body-count : ℕ) → Joined joints count body-count → (k : ℕ) → k < n → get_or ib k 0 < body-count

-- t is s with n times body from `from` on, and whatever stood behind them
pub record Spread (from n body : ℕ) (s t : List ℕ) : Type 0 where
  pub before : (j : ℕ) → j < from → get_or t j 0 ≡ get_or s j 0
  pub here : (j : ℕ) → from ≤ j → j < from + n → get_or t j 0 ≡ body
