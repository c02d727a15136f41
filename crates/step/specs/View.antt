-- Bodies in motion in the scratch: the starting bodies have 26 doubles each (13 that move, then mass, local centre and inverse inertia),
-- the candidates the 13 that move.
use Rattle.std.specs.Prelude.{ℕ, ◌+◌, ◌*◌, ◌<◌, ◌≡◌, List, [], Float}
use Rattle.arith.specs.Flow.{tab}
use Rattle.vectors.specs.declared.vector.Vec3.{Vec3}
use Rattle.vectors.specs.declared.matrix.Mat3.{Mat3}
use Rattle.vectors.specs.Matrix.{from_cols, column_of}
use Rattle.rows.specs.declared.body.RigidBody.{RigidBody}
use Rattle.rows.specs.declared.body.BodyState.{BodyState}
use Rattle.rows.specs.declared.body.MomentumBody.{MomentumBody}
use Rattle.rows.specs.Body.{body_with}
use Rattle.rows.specs.View.{at, vec3_at, Out, Kept}
use Rattle.step.specs.Layout.{RECORD, MOVING, START, CANDIDATE}
use Rattle.step.specs.Records.{quat_at, mat_at}
use Rattle.step.specs.Bodies.{body_in, record_in, state_in}

-- what `body_in`, `record_in` and `state_in` have past the end of a list
abbrev pub no_body : MomentumBody
no_body = body_in [] 0

abbrev pub no_record : RigidBody
no_record = record_in [] 0

abbrev pub no_state : BodyState
no_state = state_in [] 0

-- what does not move of a body
pub record Fixed : Type 0 where
  pub mass : Float
  pub center-of-mass : Vec3
  pub inverse-inertia : Mat3

-- the nine numbers of a matrix, as a store writes them
abbrev pub cols_of : Mat3 → Mat3
cols_of m = from_cols (column_of m 0) (column_of m 1) (column_of m 2)

abbrev pub fixed_of : MomentumBody → Fixed
fixed_of b = record { mass = b.mass; center-of-mass = b.center_of_mass; inverse-inertia = cols_of b.inverse_inertia }

abbrev pub fixed_at : List Float → ℕ → Fixed
fixed_at s i = record { mass = at s i; center-of-mass = vec3_at s (i + 1); inverse-inertia = mat_at s (i + 4) }

-- the body that moves as the 13 doubles at i say; the rest of it stands behind the 13 doubles at j
abbrev pub body_from : List Float → ℕ → ℕ → MomentumBody
body_from s i j = record {
  center = vec3_at s i;
  rotation = quat_at s (i + 3);
  momentum = vec3_at s (i + 7);
  spin = vec3_at s (i + 10);
  mass = at s (j + 13);
  center_of_mass = vec3_at s (j + 14);
  inverse_inertia = mat_at s (j + 17);
}

-- the 13 doubles at i as a state
abbrev pub state_at : List Float → ℕ → BodyState
state_at s i = record { origin = vec3_at s i; rotation = quat_at s (i + 3); linear_velocity = vec3_at s (i + 7); angular_velocity = vec3_at s (i + 10) }

-- the body k at the start of the step
abbrev pub start_body_at : List Float → ℕ → MomentumBody
start_body_at s k = body_from s (START + RECORD * k) (START + RECORD * k)

-- the candidate k, with mass, local centre and inverse inertia of the start
abbrev pub candidate_at : List Float → ℕ → MomentumBody
candidate_at s k = body_from s (CANDIDATE + MOVING * k) (START + RECORD * k)

-- the first of them, and the states that stand where the candidates were
abbrev pub start_bodies_at : List Float → ℕ → List MomentumBody
start_bodies_at s body-count = tab body-count (start_body_at s)

abbrev pub candidates_at : List Float → ℕ → List MomentumBody
candidates_at s body-count = tab body-count (candidate_at s)

abbrev pub states_at : List Float → ℕ → List BodyState
states_at s body-count = tab body-count (λ k. state_at s (CANDIDATE + MOVING * k))

-- the body as a store of all of it leaves it
abbrev pub held_of : MomentumBody → MomentumBody
held_of b = body_with b.center b.rotation b.momentum b.spin b.mass b.center_of_mass (cols_of b.inverse_inertia)

-- the start with what moves of the body
abbrev pub moved_to : MomentumBody → MomentumBody → MomentumBody
moved_to b start = body_with b.center b.rotation b.momentum b.spin start.mass start.center_of_mass start.inverse_inertia

-- The states are handed back: the first 13 doubles of the records are those of the scratch, all else is as it was.
pub record Handed (body-count : ℕ) (s bodies after : List Float) : Type 0 where
  pub kept : Kept (λ i. (k : ℕ) → k < body-count → Out (RECORD * k) MOVING i) bodies after
  pub there : (k : ℕ) → k < body-count → state_at after (RECORD * k) ≡ state_at s (CANDIDATE + MOVING * k)
