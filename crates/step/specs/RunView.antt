-- What of the scratch a run's values are, what its functions ask for and leave alone, by the stage too, and how the code's answers are read.
use Rattle.std.specs.Prelude.{ℕ, ◌+◌, ◌-◌, ◌≤◌, ◌<◌, ◌≡◌, Bool, cond, Option, List, length, get_or, IfSome, Float}
use Rattle.std.specs.declared.ops.ControlFlow.{ControlFlow}
use Rattle.std.specs.declared.ops.ControlFlow.TheVariants.{Continue, Break}
use Rattle.arith.specs.Flow.{Turn, go, stop, turns}
use Rattle.arith.specs.Run.{ran, after}
use Rattle.vectors.specs.Vector.{div_of}
use Rattle.rows.specs.declared.body.MomentumBody.{MomentumBody}
use Rattle.rows.specs.declared.geometry.Joint.{Joint}
use Rattle.rows.specs.Fault.{Result}
use Rattle.rows.specs.Body.{omega_of}
use Rattle.rows.specs.Count.{row_count}
use Rattle.rows.specs.View.{Out, Kept}
use Rattle.solves.specs.declared.joined.Rows.{Rows}
use Rattle.solves.specs.Layout.{ROW_TABLE, ROWS_MOST}
use Rattle.solves.specs.Region.{vec_at}
use Rattle.solves.specs.System.{Counting}
use Rattle.solves.specs.Search.{least_most}
use Rattle.solves.specs.View.{ROWS, RHS, rows_on, count_of, system_at}
use Rattle.step.specs.declared.passes.Counts.{Counts}
use Rattle.step.specs.declared.velocity.Motion.{Motion}
use Rattle.step.specs.Checks.{joint_in}
use Rattle.step.specs.Layout.{IMPULSES, START, CANDIDATE, STATES}
use Rattle.step.specs.View.{candidate_at, start_bodies_at, candidates_at}
use Rattle.step.specs.Bodies.{Job, Started, Found, add_impulses, reaction_of}
use Rattle.step.specs.Joined.{Joined}
use Rattle.step.specs.Step.{nonlinear_pass, velocity_pass}

-- ---- views
-- the candidates where bodies were moved, else those of the start
abbrev pub bodies_at : Bool → List Float → ℕ → List MomentumBody
bodies_at moved s body-count = cond moved (candidates_at s body-count) (start_bodies_at s body-count)

abbrev pub candidates_of : Rows → List Float → List MomentumBody
candidates_of rows s = candidates_at s rows.bodies

abbrev pub impulses_at : List Float → Rows → List Float
impulses_at s rows = vec_at s IMPULSES (count_of rows)

-- what stands before the first pass, and what a pass found: the same rows of the candidates stand at ROWS
abbrev pub started_at : List Float → Rows → Started
started_at s rows = record { bodies = start_bodies_at s rows.bodies; system = system_at s rows }

abbrev pub found_at : List Float → Rows → Found
found_at s rows = record { candidate = candidates_at s rows.bodies; rows = rows_on rows.a.now rows.b.now s ROWS (count_of rows) }

abbrev pub job_for : List Joint → Float → Bool → Job
job_for joints dt cyclic = record { joints = joints; count = length joints; dt = dt; cyclic = cyclic }

-- how many rows the joints before k have
abbrev pub rows_before : List Joint → ℕ → ℕ
rows_before joints k = turns (λ j n. n + row_count (joint_in joints j).kind) k 0

-- the rows of each joint are on its bodies
pub record Sides (joints : List Joint) (count : ℕ) (ia ib : List ℕ) : Type 0 where
  pub a-is : (k i : ℕ) → k < count → i < row_count (joint_in joints k).kind → get_or ia (rows_before joints k + i) 0 ≡ (joint_in joints k).body_a
  pub b-is : (k i : ℕ) → k < count → i < row_count (joint_in joints k).kind → get_or ib (rows_before joints k + i) 0 ≡ (joint_in joints k).body_b

-- the motion is the body's: its velocity, and its angular velocity where that is finite
pub record MotionOf (body : MomentumBody) (motion : Motion) : Type 0 where
  pub linear-is : motion.linear ≡ div_of body.momentum body.mass
  pub angular-is : motion.angular ≡ omega_of body

-- of candidate k
pub record MotionAt (s : List Float) (k : ℕ) (motion : Motion) : Type 0 where
  pub body_is : motion.body ≡ k
  pub moves : MotionOf (candidate_at s k) motion

-- of the candidate that it names, if one is kept
abbrev pub Remembers : List Float → Option Motion → Type 0
Remembers s last = IfSome last (λ motion. (motion.body < 16) × (MotionOf (candidate_at s motion.body) motion))

-- ---- what a run asks for
-- the rows are the starting ones: those of the joints, apart from the rows that a pass writes
pub record Joins (joints : List Joint) (rows : Rows) : Type 0 where
  pub joined : Joined joints (length joints) rows.bodies
  pub sides : Sides joints (length joints) rows.a.now rows.b.now
  pub rows_are : count_of rows ≡ rows_before joints (length joints)
  pub apart : rows.place + ROW_TABLE ≤ ROWS

-- the most linear passes of a solve
abbrev pub LIMIT : ℕ
LIMIT = least_most ROWS_MOST

-- ---- outside of what is written
-- Inside of it stands what the contract's views say; all else there is free: only the crate itself calls these functions, and the step zeroes
-- the scratch before it answers.
-- by the nonlinear passes: not the starting bodies, the starting rows, the masses
abbrev pub Trying : ℕ → Type 0
Trying i = (Out ROWS ROW_TABLE i) × (Out RHS (START - RHS) i) × (Out CANDIDATE STATES i)

-- by the velocity loop: not the starting bodies, the rows, the masses, the impulses
abbrev pub Correcting : ℕ → Type 0
Correcting i = (Out RHS (IMPULSES - RHS) i) × (Out CANDIDATE STATES i)

-- ---- the two loops
pub data Which : Type 0 where
  Nonlinear Velocity : Which

-- what a pass is given by the one before: the impulses, or the candidates
abbrev pub Given : Which → Type 0
Given Nonlinear = List Float
Given Velocity = List MomentumBody

abbrev pub given_at : (which : Which) → List Float → Rows → Given which
given_at Nonlinear s rows = impulses_at s rows
given_at Velocity s rows = candidates_of rows s

-- what the loop is left with
abbrev pub Gained : Which → Type 0
Gained Nonlinear = Found
Gained Velocity = List MomentumBody

abbrev pub gained_at : (which : Which) → List Float → Rows → Gained which
gained_at Nonlinear s rows = found_at s rows
gained_at Velocity s rows = candidates_of rows s

-- the definition's pass, over what else stands in the scratch
abbrev pub pass_at : (which : Which) → Job → Rows → List Float → Given which → Counting (Turn (Given which) (Gained which))
pass_at Nonlinear job rows s = nonlinear_pass job (started_at s rows)
pass_at Velocity job rows s = velocity_pass job (system_at s rows)

-- what it makes of a solution
abbrev pub make_at : (which : Which) → List Float → Rows → List Float → Result (Given which)
make_at Nonlinear s rows = add_impulses (impulses_at s rows)
make_at Velocity s rows = reaction_of (system_at s rows).rows (candidates_of rows s)

-- its rows are apart from those that it writes
abbrev pub Apart : Which → Rows → Type 0
Apart Nonlinear rows = rows.place + ROW_TABLE ≤ ROWS
Apart Velocity rows = Unit {0}

-- what is outside of what it writes
abbrev pub Outside : Which → ℕ → Type 0
Outside Nonlinear = Trying
Outside Velocity = Correcting

-- ---- answers
-- how a pass ended that left a for the next, or b
abbrev pub turned : {A B : Type 0} → Result (ControlFlow (Unit {0}) (Unit {0})) → A → B → Result (Turn A B)
turned (go (Continue _)) a b = go (go a)
turned (go (Break _)) a b = go (stop b)
turned (stop fault) a b = stop fault

-- what a function does that counts on: it leaves t for s as P allows, and its answer x is what is defined, after the passes counted before
pub record Goes {A : Type 0} (P : ℕ → Type 0) (s t : List Float) (before now : Counts) (x : Result A) (defined : Counting A) : Type 0 where
  pub kept : Kept P s t
  pub is : ran x now.nonlinear now.linear ≡ after before.nonlinear before.linear defined
