-- What the functions of the two loops say: what they leave alone, and that their answer with what they leave is the definition's at entry.
use Rattle.std.specs.Prelude.{ℕ, ◌+◌, ◌-◌, ◌≤◌, ◌≡◌, Bool, List, Float}
use Rattle.std.specs.declared.ops.ControlFlow.{ControlFlow}
use Rattle.arith.specs.Flow.{leaving}
use Rattle.arith.specs.Run.{up_to}
use Rattle.rows.specs.declared.body.BodyState.{BodyState}
use Rattle.rows.specs.declared.geometry.Joint.{Joint}
use Rattle.rows.specs.Fault.{Result, NonConvergent}
use Rattle.rows.specs.View.{Out}
use Rattle.solves.specs.declared.joined.Rows.{Rows}
use Rattle.solves.specs.Region.{Does}
use Rattle.solves.specs.System.{Counting}
use Rattle.solves.specs.Search.{linear_solve}
use Rattle.solves.specs.View.{MASSES, rows_on, system_at, rhs_at}
use Rattle.solves.specs.Layout.{ROW_TABLE}
use Rattle.step.specs.declared.passes.Counts.{Counts}
use Rattle.step.specs.Joined.{Joined}
use Rattle.step.specs.Layout.{USED}
use Rattle.step.specs.View.{states_at}
use Rattle.step.specs.Bodies.{Job, Started, Found, write_rows}
use Rattle.step.specs.TurnLaws.{correction}
use Rattle.step.specs.RunView.{impulses_at, started_at, found_at, rows_before, Sides, Trying, bodies_at}
use Rattle.step.specs.RunView.{Which, given_at, gained_at, pass_at, make_at, Outside, turned, Goes}

-- a function that leaves a list in the scratch, or fails: what it touches, and what it left
abbrev pub Leaves : {A : Type 0} → (ℕ → Type 0) → List Float → List Float → Result (Unit {0}) → (List Float → A) → Result A → Type 0
Leaves P s s' r view defined = Does P s s' (leaving r (view s')) defined

-- `write_rows`, of the rows of the joints, on whatever bodies two lists say that they are
abbrev pub WritesRows : List Float → List Float → List Joint → ℕ → ℕ → Bool → Result (Unit {0}) → Type 0
WritesRows s s' joints count place moved r = (body-count : ℕ) → Joined joints count body-count → (ia ib : List ℕ) → Sides joints count ia ib
    → Leaves (Out place ROW_TABLE) s s' r (λ u. rows_on ia ib u place (rows_before joints count)) (write_rows joints count (bodies_at moved s body-count))

-- both stages, from s to u, with the counts at entry and at exit: `correct`, `pass`, `stage_loop`
module _ (which : Which) (rows : Rows) (s u : List Float) where
  abbrev pub Corrects : Bool → Counts → Counts → Result (ControlFlow (Unit {0}) (Unit {0})) → Type 0
  Corrects cyclic before now r =
      (Goes (Outside which) s u before now (turned r (given_at which u rows) (gained_at which u rows))
      (correction (linear_solve cyclic (system_at s rows) (rhs_at s rows)) (make_at which s rows))) × (now.nonlinear ≡ before.nonlinear)

  abbrev pub Passes : Job → Counts → Counts → Result (ControlFlow (Unit {0}) (Unit {0})) → Type 0
  Passes job before now r =
      (Goes (Outside which) s u before now (turned r (given_at which u rows) (gained_at which u rows)) (pass_at which job rows s (given_at which s rows)))
      × (now.nonlinear ≤ before.nonlinear + 1)

  abbrev pub Loops : Job → ℕ → Counts → Counts → Result (Unit {0}) → Type 0
  Loops job most before now r =
      (Goes (Outside which) s u before now (leaving r (gained_at which u rows))
      (up_to most NonConvergent (pass_at which job rows s) (given_at which s rows))) × (now.nonlinear ≤ before.nonlinear + most)

module _ (s s' : List Float) (rows : Rows) where
  -- `candidate`
  abbrev pub Finds : Result (Unit {0}) → (Started → List Float → Result Found) → Type 0
  Finds r f = Does Trying s s' (leaving r (found_at s' rows)) (f (started_at s rows) (impulses_at s rows))

  -- `finish_run`
  abbrev pub Finishes : Counts → Counts → Result (Unit {0}) → (Found → Counting (List BodyState)) → Type 0
  Finishes before now r f = Goes (Out MASSES (USED - MASSES)) s s' before now (leaving r (states_at s' rows.bodies)) (f (found_at s rows))
