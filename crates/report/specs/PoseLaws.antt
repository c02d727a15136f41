-- Laws of what `pose` does: the first 5,756 bytes of a file decide its report, and the report is put whole where there is room.
use Rattle.std.specs.Prelude.{ℕ, ◌*◌, ◌≤◌, ◌≡◌, true, ltb, not, Bool, List, ◌++◌, length, take, drop, Float, Ok, Err}
use Rattle.std.proofs.Common.{sym, ◌∙◌, ap, take_at, le-leb}
use Rattle.arith.specs.Flow.{Turn, return_if, and_then, ◌>>=◌}
use Rattle.step.specs.Records.{RECORD}
use Rattle.step.specs.declared.Refusal.{Refusal}
use Rattle.step.specs.Checks.{time_step_ok, bodies_fit, sizes_or, refusal_of}
use Rattle.step.specs.Step.{Stepped, stepped, cleared, concluded, run_for, solve_of}
use Rattle.plan.specs.declared.reader.Plan.{Plan}
use Rattle.plan.specs.File.{Reading, empty_of}
use Rattle.plan.specs.FirstBytes.{first-bytes}
use Rattle.report.specs.Pose.{step_of, posed_by, pose_of, ROOM, pose_length, pose_out}

pub pose-first-bytes : (m : ℕ) (file : List ℕ) (scratch : List Float) → 5756 ≤ m → pose_of (take m file) scratch ≡ pose_of file scratch
unfolding pose_of
pose-first-bytes m file scratch h = ap (λ (r : Reading). posed_by r scratch) (first-bytes m file empty_of h)

pub pose-whole : (file : List ℕ) (scratch : List Float) (out : List ℕ) {after : List ℕ} {r : ℕ} → ROOM ≤ length out → r ≡ pose_length file scratch out
    → after ≡ pose_out file scratch out → take r after ≡ (pose_of file scratch).text
pose-whole file scratch out {after} {r} room e h =
    let text : List ℕ = (pose_of file scratch).text in
    let long : r ≡ length text = e ∙ simp (le-leb ROOM (length out) room) in
    let holds : after ≡ text ++ drop (length text) out = h ∙ simp (le-leb ROOM (length out) room) in
    ap (take r) holds ∙ take_at text (drop (length text) out) r (sym long)

-- a count above 16, more than a table holds, is refusal 3, where 1 and 2 are not met
three : (a b c : Bool) (rest : Turn (Unit {0}) Refusal) → a ≡ true → b ≡ true → c ≡ true
    → (return_if (not a) Refusal.TimeStep >>= λ _. return_if (not b) Refusal.Bodies >>= λ _. return_if c Refusal.Joints >>= λ _. rest) ≡ Err Refusal.Joints
unfolding and_then
three a b c rest e f g = simp (e, f, g)

module _ (plan : Plan) (scratch : List Float) (timed : time_step_ok plan.dt ≡ true)
    (fit : bodies_fit (length (take (RECORD * plan.tables.body_count) plan.tables.bodies)) ≡ true) (many : ltb 16 plan.tables.joint_count ≡ true) where
  abbrev bodies : List Float
  bodies = take (RECORD * plan.tables.body_count) plan.tables.bodies

  sizes-three : sizes_or (length bodies) plan.tables.joint_count plan.dt (length scratch) ≡ Err Refusal.Joints
  unfolding sizes_or
  sizes-three = three _ _ _ _ timed fit many

  refusal-three : refusal_of bodies (take plan.tables.joint_count plan.tables.joints) plan.tables.joint_count plan.dt (length scratch) ≡ Err Refusal.Joints
  unfolding refusal_of and_then
  refusal-three = simp sizes-three

  abbrev after : Turn (Unit {0}) Refusal → Stepped
  after r =
      elim r [
        | Err refusal ↦ stepped (Err refusal) 0 0 bodies scratch
        | Ok _ ↦ concluded bodies (cleared scratch) (run_for bodies (take plan.tables.joint_count plan.tables.joints) plan.tables.joint_count plan.dt)
      ]

  pub step-counts-joints : (step_of plan scratch).outcome ≡ Err Refusal.Joints
  unfolding step_of solve_of
  step-counts-joints = ap (λ (r : Turn (Unit {0}) Refusal). (after r).outcome) refusal-three
