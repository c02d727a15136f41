-- What the passes and the loops count at most, so that the code's sums do not wrap: link by link, from the limit of a linear solve.
use Prim.Native.Nat.{ℕ, ◌*◌, ◌≤◌}
use mathlib.Core.Path.{◌≡◌, ap}
use mathlib.Core.List.{List}
use native.Mathlib.Omega.{arith}
use lib.ListN.{length}
use lib.Ieee.{Float}
use Rattle.arith.specs.Flow.{Turn}
use Rattle.arith.specs.Run.{Run, up_to}
use Rattle.arith.specs.UpToLaws.{AtMost, most-try, most-call, most-none, most-leave, most-loop}
use Rattle.rows.specs.declared.body.MomentumBody.{MomentumBody}
use Rattle.rows.specs.Fault.{CollisionError, NonConvergent}
use Rattle.rows.specs.Region.{tab-length}
use Rattle.solves.specs.declared.joined.Rows.{Rows}
use Rattle.solves.specs.View.{ROWS_MOST, row_on, rows_on, count_of, system_at}
use Rattle.step.specs.declared.passes.Counts.{Counts}
use Rattle.step.specs.RunView.{started_at, Which, Nonlinear, Velocity, Given, pass_at, Goes, LIMIT}
use Rattle.solves.specs.System.{System, rows_in}
use Rattle.solves.specs.Search.{least_most}
use Rattle.solves.specs.LimitLaws.{linear-most}
use Rattle.step.specs.Bodies.{Job, Started, Found}
use Rattle.step.specs.Step.{nonlinear_pass, velocity_pass}

-- the limit of a solve over n rows
abbrev pub limit : ℕ → ℕ
limit n = least_most n

pub nonlinear-most : (job : Job) (start : Started) (impulses : List Float)
    → AtMost (limit (rows_in start.system)) (nonlinear_pass job start impulses)
unfolding nonlinear_pass
nonlinear-most job start impulses =
    most-call {a = 0} {b = limit (rows_in start.system)} _ _ (record { most = omega arith }) (λ _. most-try _ _ λ found.
    most-leave _ _ _ (most-call _ _ (linear-most _ _ _) (λ solution. most-try _ _ λ next. (most-none {m = 0} _)) (omega arith))) (omega arith)

pub velocity-most : (job : Job) (system : System) (candidate : List MomentumBody)
    → AtMost (limit (rows_in system)) (velocity_pass job system candidate)
unfolding velocity_pass
velocity-most job system candidate =
    most-try _ _ λ rhs. most-leave _ _ _ (most-call _ _ (linear-most _ _ _) (λ solution. most-try _ _ λ next. (most-none {m = 0} _)) (omega arith))

-- ---- of rows in the scratch, which are few
module _ (rows : Rows) (s : List Float) where
  rows_few : (place : ℕ) → length (rows_on rows.a.now rows.b.now s place (count_of rows)) ≤ ROWS_MOST
  rows_few place = omega (arith, tab-length (count_of rows) (row_on rows.a.now rows.b.now s place), rows.few_rows)

-- of a pass
pub pass-few : (which : Which) (job : Job) (rows : Rows) (s : List Float) (v : Given which) → (pass_at which job rows s v).linear ≤ LIMIT
pass-few Nonlinear job rows s v = omega (arith, (nonlinear-most job (started_at s rows) v).most, rows_few rows s rows.place)
pass-few Velocity job rows s v = omega (arith, (velocity-most job (system_at s rows) v).most, rows_few rows s rows.place)

-- of the nonlinear loop
pub loop-few : (job : Job) (rows : Rows) {P : ℕ → Type 0} {s t : List Float} {before now : Counts} {x : Turn Found CollisionError} (v : List Float)
    → before.linear ≡ 0
    → Goes P s t before now x (up_to 32 NonConvergent (nonlinear_pass job (started_at s rows)) v) → now.linear ≤ 32 * LIMIT
loop-few job rows {s = s} v z g =
    omega (
      arith,
      ap (λ (r : Run Found CollisionError). r.linear) g.is,
      (most-loop (nonlinear_pass job (started_at s rows)) (nonlinear-most job (started_at s rows)) 32 NonConvergent v).most,
      rows_few rows s rows.place,
    )
