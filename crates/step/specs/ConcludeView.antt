-- What `conclude` and `solve_in` say: the answers of the code as the definition's.
use Rattle.std.specs.Prelude.{ℕ, ◌≡◌, List, Float}
use Rattle.arith.specs.Flow.{Turn}
use Rattle.arith.specs.Run.{ran}
use Rattle.rows.specs.declared.body.BodyState.{BodyState}
use Rattle.rows.specs.Fault.{Result}
use Rattle.step.specs.declared.Refusal.{Refusal}
use Rattle.step.specs.declared.Report.{Report}
use Rattle.step.specs.Step.{Stepped, stepped, concluded}

-- the outcome of a run that ended so, whatever it counted and whatever becomes of the scratch
abbrev pub Concludes : List Float → List Float → Turn (Unit {0}) Refusal → Result (List BodyState) → Type 0
Concludes bodies bodies' outcome ends = (nonlinear linear : ℕ) (scratch : List Float)
    → stepped outcome nonlinear linear bodies' scratch ≡ concluded bodies scratch (ran ends nonlinear linear)

abbrev pub Reports : List Float → List Float → Report → Stepped → Type 0
Reports bodies' work' r defined = stepped r.outcome r.nonlinear r.linear bodies' work' ≡ defined
