-- The code's answers as the definitions' results.
use Rattle.std.specs.Prelude.{ℕ, ◌≡◌, Bool, List, Option, Some, None, Float}
use Rattle.arith.specs.Flow.{Turn, go, stop, leaving}
use Rattle.arith.specs.Fault.{refusal_number}
use Rattle.arith.specs.Run.{ran, after}
use Rattle.rows.specs.declared.geometry.EqualityRow.{EqualityRow}
use Rattle.rows.specs.Fault.{Result}
use Rattle.solves.specs.declared.joined.Rows.{Rows as Joins}
use Rattle.solves.specs.declared.places.Generalized.{Generalized}
use Rattle.solves.specs.declared.order.NoPath.{NoPath}
use Rattle.solves.specs.System.{System, Counting}
use Rattle.solves.specs.Solver.{Search, Prepared, Tested}
use Rattle.solves.specs.Region.{vec_at, Does}
use Rattle.solves.specs.View.{search_at, prepared_at, list_of_first, shares_in, system_at, solution_at, Shares, Work, SOLUTION}

-- ---- results with what a call left, where it leaves more than `leaving` says
-- rho, with the diagonal and the direction that stand in s
abbrev pub prepared_as : Result Float → List Float → ℕ → Result Prepared
prepared_as (go rho) s n = go (prepared_at s n rho)
prepared_as (stop fault) s n = stop fault

-- ---- passes
-- whether the solve is done, with the residual that was recomputed
abbrev pub tested_as : Result Bool → List Float → Result Tested
tested_as (go solved) residual = go (record { residual = residual; solved = solved })
tested_as (stop fault) residual = stop fault

-- a pass of a search that left s, counted where there is to be another
abbrev pub search_as : Result (Option Float) → List Float → ℕ → Counting (Turn Search (List Float))
search_as (go (Some rho)) s n = ran (go (go (search_at s n rho))) 0 1
search_as (go None) s n = ran (go (stop (vec_at s SOLUTION n))) 0 0
search_as (stop fault) s n = ran (stop fault) 0 0

-- ---- the path
-- the order of n rows along the paths, or declined
abbrev pub order_as : Turn (List ℕ) NoPath → ℕ → Turn (List ℕ) NoPath
order_as (go rows) n = go (list_of_first rows n)
order_as (stop e) n = stop e

-- what a call left, or declined
abbrev pub left_as : {A : Type 0} → Turn (Unit {0}) NoPath → A → Turn A NoPath
left_as (go _) x = go x
left_as (stop e) x = stop e

-- ---- what the two calls say that the step takes, each with the number of its answer
-- `transpose`: the bodies' shares of the rows at entry, as f says, or the fault; no more than the shares is touched
abbrev pub Pushes : List Float → List Float → Joins → Result (Unit {0}) → (List EqualityRow → Result (List Generalized)) → Type 0
Pushes s s' rows r f =
    let defined = f (system_at s rows).rows in
    (Does Shares s s' (leaving r (shares_in s' rows.bodies)) defined) × (refusal_number r ≡ refusal_number defined)

-- a linear solve, which counted on from l to l': the system at entry is solved as f says, the solution stands at exit, and no more than `Work` is
-- touched
abbrev pub Counted : List Float → List Float → Joins → ℕ → ℕ → Result (Unit {0}) → (System → Counting (List Float)) → Type 0
Counted s s' rows l l' r f = Does Work s s' (ran (leaving r (solution_at s' rows)) 0 l') (after 0 l (f (system_at s rows)))

-- `solve`
abbrev pub Solves : List Float → List Float → Joins → ℕ → ℕ → Result (Unit {0}) → (System → Counting (List Float)) → Type 0
Solves s s' rows l l' r f = (Counted s s' rows l l' r f) × (refusal_number r ≡ refusal_number (f (system_at s rows)).ends)
