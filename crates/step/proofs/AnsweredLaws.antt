-- `solve` by its two ways: refused, or run.
use Prim.Native.Nat.{ℕ}
use mathlib.Core.Path.{◌≡◌, refl, sym, ap, ◌∙◌}
use mathlib.Core.Bool.{true, false}
use mathlib.Core.List.{List}
use lib.ListN.{length}
use lib.Ieee.{Float}
use Rattle.std.specs.Prelude.{is_err}
use Rattle.arith.specs.Flow.{Turn, go, stop}
use native.Mathlib.Omega.{arith}
use Rattle.rows.specs.declared.geometry.Joint.{Joint}
use Rattle.step.specs.declared.Refusal.{Refusal}
use Rattle.step.specs.declared.Report.{Report}
use Rattle.step.specs.Checks.{refusal_of}
use Rattle.step.specs.CheckLaws.{Unrefused, accepted}
use Rattle.step.specs.Step.{Stepped, stepped, run_for, cleared, concluded, solve_of}
use Rattle.step.specs.Answered.{Answered}
use Rattle.step.specs.MeetLaws.{answered}

false-true : false ≡ true → ⊥
false-true e = let z : ◌≡◌ {A = ℕ} 0 1 = cc in omega arith

module _ (bodies : List Float) (joints : List Joint) (count : ℕ) (dt : Float) (scratch : List Float) {o : Turn (Unit {0}) Refusal}
    (e : o ≡ refusal_of bodies joints count dt (length scratch)) where
  abbrev answer : Turn (Unit {0}) Refusal → Stepped
  answer o = elim o [
    | stop refusal ↦ stepped (stop refusal) 0 0 bodies scratch
    | go _ ↦ concluded bodies (cleared scratch) (run_for bodies joints count dt)
  ]

  answer-is : answer o ≡ solve_of bodies joints count dt scratch
  unfolding solve_of
  answer-is = ap answer e

  pub run-unrefused : is_err o ≡ false → Unrefused bodies joints count dt (length scratch)
  run-unrefused h = accepted _ _ _ _ _ (sym e ∙ through o h)
    where
      through : (o : Turn (Unit {0}) Refusal) → is_err o ≡ false → o ≡ go tt
      through (go u) h = refl
      through (stop refusal) h = absurd (false-true (sym h))

  pub answered-refused : is_err o ≡ true → Answered bodies bodies joints count dt scratch scratch (record { outcome = o; nonlinear = 0; linear = 0 })
  answered-refused h = answered _ _ _ _ _ _ _ _ (refused o h ∙ answer-is)
    where
      refused : (o : Turn (Unit {0}) Refusal) → is_err o ≡ true → stepped o 0 0 bodies scratch ≡ answer o
      refused (go u) h = absurd (false-true h)
      refused (stop refusal) h = refl

  pub answered-run : {after left : List Float} {r : Report} → is_err o ≡ false
      → stepped r.outcome r.nonlinear r.linear after left ≡ concluded bodies (cleared scratch) (run_for bodies joints count dt)
      → Answered bodies after joints count dt scratch left r
  answered-run {after} {left} {r} h q = answered bodies after joints count dt scratch left r (q ∙ ran o h ∙ answer-is)
    where
      ran : (o : Turn (Unit {0}) Refusal) → is_err o ≡ false → concluded bodies (cleared scratch) (run_for bodies joints count dt) ≡ answer o
      ran (go u) h = refl
      ran (stop refusal) h = absurd (false-true (sym h))
