-- The scratch of a step: the regions of a linear solve (solves/specs/Layout.antt), and behind them the step's own, as src/layout.rt. Only here are places.
--
--     region      doubles    who may touch it
--     IMPULSES    VECTOR     the nonlinear loop: `add_impulses`, and `clear` before the first pass
--     START       BODIES     `start_bodies`
--     CANDIDATE   STATES     `move_bodies`, `kick_candidates`; at the end `make_states`, which puts the states there
use Rattle.std.specs.Prelude.{ℕ, ◌+◌, ◌*◌}
pub use Rattle.step.specs.Records.{RECORD, MOVING, SCRATCH}
use Rattle.solves.specs.Layout.{BODIES_MOST, VECTOR, END}

-- sizes: the bodies at the start, and what moves of the candidates
abbrev pub BODIES : ℕ
BODIES = BODIES_MOST * RECORD

abbrev pub STATES : ℕ
STATES = BODIES_MOST * MOVING

abbrev pub IMPULSES : ℕ
IMPULSES = END

abbrev pub START : ℕ
START = IMPULSES + VECTOR

abbrev pub CANDIDATE : ℕ
CANDIDATE = START + BODIES

-- the doubles that are used
abbrev pub USED : ℕ
USED = CANDIDATE + STATES
