-- ConstrainedIntegrator::solve of solver.rs over plain values, pass by pass, with the refusals and the ground of SPECIFICATION §7 and §11.
-- In a `do` block `x ← e` is `let x = e?` with the passes that it counted; `try` marks what counts none, `begin` is `nonlinear_iterations = iteration + 1`.
-- Bodies.antt has the parts that count nothing, solves/specs/Search.antt the linear solves.
use Rattle.std.specs.Prelude.{ℕ, ◌/◌, ◌%◌, List, [], ◌++◌, ◌∷◌, Bool, cond, length, drop, replicate, Float, ltb, leb}
use Rattle.step.specs.Words.{tab, every, go, stop, Turn, ratio}
use Rattle.step.specs.Words.{at, RigidBody, BodyState, MomentumBody, Joint, ArithmeticOverflow, CollisionError, NonConvergent, System, rows_in, Counting}
use Rattle.step.specs.Words.{linear_solve, Refusal}
use Rattle.arith.specs.Run.{◌>>=◌, ◌>>◌, try, begin, again, leave_if, up_to}
use Rattle.step.specs.Records.{RECORD, MOVING, SCRATCH, count_of_bodies, records_of}
use Rattle.step.specs.Checks.{within_of, refusal_of}
use Rattle.step.specs.Bodies.{Job, Started, start_of, Found, rows_met, rhs_of, add_impulses, candidate_of, velocity_rhs, compatible_of, reaction_of}
use Rattle.step.specs.Bodies.{prepare_masses, states_of, state_in}

-- ---- the run. For iteration in 0..32: candidates from the starting bodies, and where their rows are not met a correction along the starting rows
unfoldable pub nonlinear_pass : Job → Started → List Float → Counting (Turn (List Float) Found)
nonlinear_pass job start impulses = begin >> do
  found ← try (candidate_of job start impulses)
  leave_if (rows_met found.rows) found do
    solution ← linear_solve job.cyclic start.system (rhs_of job.dt found.rows)
    try (add_impulses impulses solution) >>= again

unfoldable pub nonlinear_loop : Job → Started → Counting Found
nonlinear_loop job start = up_to 32 NonConvergent (nonlinear_pass job start) (replicate (rows_in start.system) (ratio 0 1))

-- for _ in 0..3: tested before it is corrected, so that a third correction is never accepted
unfoldable pub velocity_pass : Job → System → List MomentumBody → Counting (Turn (List MomentumBody) (List MomentumBody))
velocity_pass job system candidate = do
  rhs ← try (velocity_rhs system.rows candidate)
  leave_if (compatible_of rhs) candidate do
    solution ← linear_solve job.cyclic system rhs
    try (reaction_of system.rows candidate solution) >>= again

unfoldable pub velocity_loop : Job → System → List MomentumBody → Counting (List MomentumBody)
velocity_loop job system candidate = up_to 3 NonConvergent (velocity_pass job system) candidate

unfoldable pub finish_of : Job → List RigidBody → Found → Counting (List BodyState)  -- after the rows were met
finish_of job bodies found = do
  masses ← try (prepare_masses found.candidate)
  candidate ← velocity_loop job (record { rows = found.rows; masses = masses }) found.candidate
  try (states_of bodies candidate)

unfoldable pub run_of : Job → List RigidBody → Counting (List BodyState)
run_of job bodies = do
  start ← try (start_of job bodies)
  found ← nonlinear_loop job start
  finish_of job bodies found

abbrev pub job_of : List Float → List Joint → ℕ → Float → Job  -- of a plan: cyclic where joints.len() >= bodies.len()
job_of bodies joints count dt = record { joints = joints; count = count; dt = dt; cyclic = leb (count_of_bodies bodies) count }

abbrev pub run_for : List Float → List Joint → ℕ → Float → Counting (List BodyState)
run_for bodies joints count dt = run_of (job_of bodies joints count dt) (records_of bodies)

-- ---- the step. What it leaves: its answer, both counts, the bodies and the scratch
pub record Stepped : Type 0 where
  pub outcome : Turn (Unit {0}) Refusal
  pub nonlinear : ℕ
  pub linear : ℕ
  pub bodies : List Float
  pub scratch : List Float

abbrev pub stepped : Turn (Unit {0}) Refusal → ℕ → ℕ → List Float → List Float → Stepped
stepped outcome nonlinear linear bodies scratch = record { outcome = outcome; nonlinear = nonlinear; linear = linear; bodies = bodies; scratch = scratch }

abbrev pub fault_outcome : CollisionError → Turn (Unit {0}) Refusal  -- refusals 10 and 11
fault_outcome fault = stop (elim fault [ NonConvergent ↦ Refusal.NonConvergent | ArithmeticOverflow ↦ Refusal.ArithmeticOverflow ])

unfoldable pub grounded : List BodyState → Bool  -- refusal 12: no coordinate of an origin above 8192 in magnitude
grounded states = every (length states) (λ k. within_of (state_in states k).origin (ratio 8192 1))

abbrev pub state_doubles : BodyState → List Float  -- the 13 doubles of a state
state_doubles s =
    s.origin.x ∷ s.origin.y ∷ s.origin.z ∷ s.rotation.x ∷ s.rotation.y ∷ s.rotation.z ∷ s.rotation.w
    ∷ s.linear_velocity.x ∷ s.linear_velocity.y ∷ s.linear_velocity.z
    ∷ s.angular_velocity.x ∷ s.angular_velocity.y ∷ s.angular_velocity.z ∷ []

unfoldable pub hand_back : List Float → List BodyState → List Float  -- each record of 26 doubles begins with its state; the other 13 stay
hand_back bodies states = tab (length bodies) (λ i.
    cond (ltb (i % RECORD) MOVING) (at (state_doubles (state_in states (i / RECORD))) (i % RECORD)) (at bodies i))

unfoldable pub cleared : List Float → List Float  -- the first 6,144 doubles are +0, the others are as they were
cleared scratch = replicate SCRATCH (ratio 0 1) ++ drop SCRATCH scratch

abbrev pub concluded : List Float → List Float → Counting (List BodyState) → Stepped  -- of a run: bodies move only where the step is accepted
concluded bodies left run =
    let answer : Turn (Unit {0}) Refusal → List Float → Stepped = λ outcome after. stepped outcome run.nonlinear run.linear after left in
    elim run.ends [
      | stop fault ↦ answer (fault_outcome fault) bodies
      | go states ↦ cond (grounded states) (answer (go tt) (hand_back bodies states)) (answer (stop Refusal.Ground) bodies)
    ]

unfoldable pub solve_of : List Float → List Joint → ℕ → Float → List Float → Stepped  -- SPECIFICATION's step: refusals 1 to 9 touch nothing
solve_of bodies joints count dt scratch =
    elim (refusal_of bodies joints count dt (length scratch)) [
      | stop refusal ↦ stepped (stop refusal) 0 0 bodies scratch
      | go _ ↦ concluded bodies (cleared scratch) (run_for bodies joints count dt)
    ]
