-- The parts of `solve` in solver.rs that count no pass: what stands before the first pass, candidates, their rows and rates, states.
-- `Result A` is the Rust's Result, and in a `do` block `x ← e` is `let x = e?`. Bodies and rows are in rows/specs, the linear solves in solves/specs.
use Rattle.std.specs.Prelude.{ℕ, ◌^◌, List, [], ◌++◌, Bool, not, ◌&&◌, length, get_or, Float, ok_or}
use Rattle.std.specs.Result.{result_unwrap_or}
use Rattle.arith.specs.Flow.{return_if}
use Rattle.vectors.specs.Matrix.{zero_mat}
use Rattle.step.specs.Words.{nan, neg, le, tab, every, go, ◌>>=◌, loop, each, ratio}
use Rattle.step.specs.Words.{is_finite, abs_of, ◌⊕◌, ◌⊘◌, quat, to_mat3_of, inverse_spd_of, finite_mat, mat_product_of, transpose_of, at, dot_of, div_of}
use Rattle.step.specs.Words.{RigidBody}
use Rattle.step.specs.Words.{BodyState, MomentumBody, Joint, EqualityRow, ArithmeticOverflow, Result, body_with, new_of, omega_of, kick_of, drift_of}
use Rattle.step.specs.Words.{state_with, state_of, write_equality_rows, System, Generalized, MassResponse, no_vec, row_in, generalized_in, try_number}
use Rattle.step.specs.Words.{transpose}
use Rattle.step.specs.Records.{record_with}
use Rattle.step.specs.Checks.{joint_in}

pub record Job : Type 0 where  -- what a run is about: joints[..count], the time step, and joints.len() >= bodies.len()
  pub joints : List Joint
  pub count : ℕ
  pub dt : Float
  pub cyclic : Bool

-- bodies[k], of bodies in motion, of records and of states; past the end, where no index below goes, nothing that is a number
abbrev pub body_in : List MomentumBody → ℕ → MomentumBody
body_in bodies k = get_or bodies k (body_with no_vec (quat nan nan nan nan) no_vec no_vec nan no_vec (record { columns = [] }))

abbrev pub record_in : List RigidBody → ℕ → RigidBody
record_in bodies k = get_or bodies k (record_with no_vec (quat nan nan nan nan) no_vec no_vec nan no_vec (record { columns = [] }))

abbrev pub state_in : List BodyState → ℕ → BodyState
state_in states k = get_or states k (state_with no_vec (quat nan nan nan nan) no_vec no_vec)

unfoldable pub start_bodies : List RigidBody → Result (List MomentumBody)  -- before the first pass: scratch.start.push(MomentumBody::new(body.body())?)
start_bodies bodies = each (length bodies) (λ k. new_of (record_in bodies k) (result_unwrap_or (inverse_spd_of (record_in bodies k).inertia) zero_mat))

abbrev pub joint_rows : List Joint → List MomentumBody → ℕ → Result (List EqualityRow)
joint_rows joints bodies k = write_equality_rows (joint_in joints k) (body_in bodies (joint_in joints k).body_a) (body_in bodies (joint_in joints k).body_b)

unfoldable pub write_rows : List Joint → ℕ → List MomentumBody → Result (List EqualityRow)  -- fn write_rows
write_rows joints count bodies = loop count (λ k rows. joint_rows joints bodies k >>= λ local. go (rows ++ local)) []

unfoldable pub mass_response : MomentumBody → Result MassResponse
mass_response body = do
  rotation ← ok_or (to_mat3_of body.rotation) ArithmeticOverflow
  let angular = mat_product_of (mat_product_of rotation body.inverse_inertia) (transpose_of rotation)
  let linear = ratio 1 1 ⊘ body.mass
  _ ← return_if (not (finite_mat angular && is_finite linear)) ArithmeticOverflow
  go (record { linear = linear; angular = angular })

unfoldable pub prepare_masses : List MomentumBody → Result (List MassResponse)  -- fn prepare_masses
prepare_masses bodies = each (length bodies) (λ k. mass_response (body_in bodies k))

pub record Started : Type 0 where  -- scratch.start, and scratch.start_rows with scratch.masses
  pub bodies : List MomentumBody
  pub system : System

unfoldable pub start_of : Job → List RigidBody → Result Started
start_of job bodies = do
  start ← start_bodies bodies
  rows ← write_rows job.joints job.count start
  masses ← prepare_masses start
  go (record { bodies = start; system = record { rows = rows; masses = masses } })

pub record Found : Type 0 where  -- what a pass of the first loop finds: scratch.candidate and scratch.rows
  pub candidate : List MomentumBody
  pub rows : List EqualityRow

abbrev pub kick_and_drift : Float → MomentumBody → Generalized → Result MomentumBody  -- body.kick(kick[0], kick[1])?; body.drift(dt)?;
kick_and_drift dt body kick = kick_of body kick.linear kick.angular >>= λ kicked. drift_of kicked dt

unfoldable pub move_bodies : Float → List MomentumBody → List Generalized → Result (List MomentumBody)  -- the starting bodies, kicked and drifted
move_bodies dt start generalized = each (length start) (λ k. kick_and_drift dt (body_in start k) (generalized_in generalized k))

unfoldable pub rows_met : List EqualityRow → Bool  -- scratch.rows.iter().all(|row| row.value.abs() <= row.tolerance)
rows_met rows = every (length rows) (λ k. le (abs_of (row_in rows k).value) (row_in rows k).tolerance)

unfoldable pub rhs_of : Float → List EqualityRow → List Float  -- *rhs = -row.value / dt
rhs_of dt rows = tab (length rows) (λ k. neg (row_in rows k).value ⊘ dt)

unfoldable pub add_impulses : List Float → List Float → Result (List Float)  -- *impulse += delta, if finite
add_impulses impulses solution = each (length impulses) (λ k. try_number (at impulses k ⊕ at solution k))

unfoldable pub candidate_of : Job → Started → List Float → Result Found  -- the starting bodies under the impulses so far, and their rows
candidate_of job start impulses = do
  generalized ← transpose start.system.rows impulses (length start.bodies)
  candidate ← move_bodies job.dt start.bodies generalized
  rows ← write_rows job.joints job.count candidate
  go (record { candidate = candidate; rows = rows })

unfoldable pub velocity_of : EqualityRow → MomentumBody → MomentumBody → Result Float  -- for _ in 0..3: fn velocity
velocity_of row a b = do
  wa ← omega_of a
  wb ← omega_of b
  try_number (dot_of row.linear_a (div_of a.momentum a.mass) ⊕ dot_of row.angular_a wa
      ⊕ dot_of row.linear_b (div_of b.momentum b.mass) ⊕ dot_of row.angular_b wb)

unfoldable pub velocity_rhs : List EqualityRow → List MomentumBody → Result (List Float)  -- *rhs = -velocity(*row, &scratch.candidate)?
velocity_rhs rows candidate = each (length rows) (λ k.
    velocity_of (row_in rows k) (body_in candidate (row_in rows k).a) (body_in candidate (row_in rows k).b) >>= λ value. go (neg value))

unfoldable pub compatible_of : List Float → Bool  -- scratch.rhs.iter().all(|value| value.abs() <= 1.0e-12)
compatible_of rhs = every (length rhs) (λ k. le (abs_of (at rhs k)) (ratio 1 (10 ^ 12)))

unfoldable pub kick_bodies : List MomentumBody → List Generalized → Result (List MomentumBody)  -- body.kick(kick[0], kick[1])?
kick_bodies candidate generalized = each (length candidate) (λ k.
    kick_of (body_in candidate k) (generalized_in generalized k).linear (generalized_in generalized k).angular)

unfoldable pub reaction_of : List EqualityRow → List MomentumBody → List Float → Result (List MomentumBody)  -- the candidates, kicked by a solution
reaction_of rows candidate solution = transpose rows solution (length candidate) >>= kick_bodies candidate

unfoldable pub states_of : List RigidBody → List MomentumBody → Result (List BodyState)  -- after both loops: scratch.states.push(body.state(..)?)
states_of bodies candidate = each (length candidate) (λ k. state_of (body_in candidate k)
    (state_with (record_in bodies k).origin (record_in bodies k).rotation (record_in bodies k).linear_velocity (record_in bodies k).angular_velocity))
