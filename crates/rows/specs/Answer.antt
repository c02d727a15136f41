-- What the contracts of body.rt and geometry.rt say beside the definitions.
use Rattle.std.specs.Prelude.{ℕ, ◌+◌, ◌*◌, ◌<◌, ◌≡◌, List, Float, Ok, Err}
use Rattle.std.specs.declared.ops.ControlFlow.{ControlFlow}
use Rattle.std.specs.declared.ops.ControlFlow.TheVariants.{Continue, Break}
use Rattle.arith.specs.Real.{ratio}
use Rattle.arith.specs.Flow.{Turn, go, stop}
use Rattle.rows.specs.declared.body.MomentumBody.{MomentumBody}
use Rattle.rows.specs.declared.geometry.Joint.{Joint}
use Rattle.rows.specs.declared.geometry.EqualityRow.{EqualityRow}
use Rattle.rows.specs.Fault.{CollisionError, refusal_number, Result}
use Rattle.rows.specs.Geometry.{write_equality_rows}
use Rattle.rows.specs.Count.{row_count}
use Rattle.rows.specs.View.{at, rows_at, Out, Kept}

-- a turn of a loop that a Result leaves: the next state, or how the loop is left
abbrev pub flow_as : {A B : Type 0} → Result (ControlFlow B A) → Turn A (Result B)
flow_as (Ok (Continue a)) = go a
flow_as (Ok (Break b)) = stop (Ok b)
flow_as (Err e) = stop (Err e)

-- the rows that s holds at i after a write that says how many they are
abbrev pub written_as : Result ℕ → List Float → ℕ → ℕ → ℕ → Result (List EqualityRow)
written_as (Ok n) s i a b = Ok (rows_at s i a b n)
written_as (Err e) s i a b = Err e

-- How the rows of a joint are written at i: s becomes t, every double of which is determined. Nothing changes but the
-- 84 doubles at i; where n rows were written nothing behind them; where there was a fault the 84 are 0.
pub record Writes (joint : Joint) (a b : MomentumBody) (i : ℕ) (s t : List Float) (r : Result ℕ) : Type 0 where
  pub kept : Kept (λ k. Out i 84 k) s t
  pub count : (n : ℕ) → r ≡ Ok n → n ≡ row_count joint.kind
  pub is : written_as r t i joint.body_a joint.body_b ≡ write_equality_rows joint a b
  pub numbered : refusal_number r ≡ refusal_number (write_equality_rows joint a b)
  pub behind : (n : ℕ) → r ≡ Ok n → Kept (λ k. Out i (14 * n) k) s t
  pub cleared : (fault : CollisionError) → write_equality_rows joint a b ≡ stop fault → (k : ℕ) → k < 84 → at t (i + k) ≡ ratio 0 1
