-- `pose` and `step_and_report` from the contracts that they call.
use Prim.Native.Nat.{ℕ, ◌*◌, ◌≤◌}
use mathlib.Core.Path.{◌≡◌, sym, ◌∙◌, ap}
use mathlib.Core.List.{List, ◌++◌}
use native.Mathlib.Omega.{arith}
use native.Mathlib.Nat.{zero-add}
use lib.ListN.{length, take, drop}
use lib.Seq.{length-take-le}
use lib.Ieee.{Float}
use borrow.Author.Tests.{le-leb}
use Rattle.std.specs.Prelude.{Result, Ok, Err}
use Rattle.io.specs.Counts.{IsPrefixLen}
use Rattle.rows.specs.declared.geometry.Joint.{Joint}
use Rattle.step.specs.declared.Report.{Report}
use Rattle.step.specs.declared.Refusal.{Refusal}
use Rattle.step.specs.Checks.{number_of}
use Rattle.step.specs.Step.{Stepped, solve_of}
use Rattle.step.specs.Answered.{Answered}
use Rattle.plan.specs.declared.reader.Plan.{Plan}
use Rattle.plan.specs.declared.reader.Tables.{Tables}
use Rattle.plan.specs.declared.reader.Refused.{Refused}
use Rattle.plan.specs.File.{read_number, Reading, empty_of, read_of, TABLE}
use Rattle.report.specs.declared.text.Counts.{Counts}
use Rattle.report.specs.Text.{Answer, Puts, report_of, room_of, report_length, report_out}
use Rattle.report.specs.Pose.{Posed, step_of, shown_of, posed_after, posed_by, pose_of, ROOM, pose_length, pose_out, pose_scratch}
use Rattle.report.proofs.Parts.{back, back-part}
use Rattle.report.proofs.Texts.{report-puts, same_length, puts-as}

-- ---- a plan that was read
module _ (plan : Plan) (scratch : List Float) (few : plan.tables.body_count ≤ 16) (long : length plan.tables.bodies ≡ TABLE)
    (few-joints : plan.tables.joint_count ≤ length plan.tables.joints) where
  abbrev used : ℕ
  used = 26 * plan.tables.body_count

  abbrev joints : List Joint
  joints = take plan.tables.joint_count plan.tables.joints

  module _ {part left : List Float} {s : Report} (kept : length part ≡ length (take used plan.tables.bodies))
      (answer : Answered (take used plan.tables.bodies) part joints (length joints) plan.dt scratch left s) where
    stepped : record { outcome = s.outcome; nonlinear = s.nonlinear; linear = s.linear; bodies = part; scratch = left } ≡ step_of plan scratch
    unfolding step_of
    stepped =
        let counted : length joints ≡ plan.tables.joint_count = length-take-le plan.tables.joint_count plan.tables.joints few-joints in
        let is = answer.is in
        cc

    pub step-scratch : left ≡ (posed_after (step_of plan scratch)).scratch
    step-scratch = ap (λ (t : Stepped). t.scratch) stepped

    abbrev shown : List Float
    shown = take used (part ++ drop used plan.tables.bodies)

    module _ {counts : Counts} (counted : counts ≡ record { nonlinear = s.nonlinear; linear = s.linear }) where
      step-text : {answer : Answer} → answer ≡ shown_of s.outcome part
          → report_of answer counts.nonlinear counts.linear ≡ (posed_after (step_of plan scratch)).text
      step-text {answer} i =
          ap (λ (c : Counts). report_of answer c.nonlinear c.linear) counted ∙ ap (λ (x : Answer). report_of x s.nonlinear s.linear) i
          ∙ ap (λ (t : Stepped). (posed_after t).text) stepped

      module _ {out after : List ℕ} {r : ℕ} (room : ROOM ≤ length out) where
        -- the report is of the bodies that the step left
        pub accepted-step : {u : Unit {0}} → s.outcome ≡ Ok u → r ≡ report_length (Ok shown) counts.nonlinear counts.linear out
            → after ≡ report_out (Ok shown) counts.nonlinear counts.linear out → Puts out 0 (posed_after (step_of plan scratch)).text after r
        accepted-step e i h =
            let b : shown ≡ part = back-part plan.tables.bodies plan.tables.body_count long few part kept in
            let size : length shown ≡ used = ap length b ∙ back plan.tables.bodies plan.tables.body_count long few part kept in
            let fit : room_of (Ok shown) ≤ length out = omega arith in
            let way : Ok part ≡ shown_of s.outcome part = ap (λ (x : Result (Unit {0}) Refusal). shown_of x part) (sym e) in
            puts-as (step-text (ap Ok b ∙ way)) (report-puts (Ok shown) counts.nonlinear counts.linear out fit i h)

        -- or of its refusal
        pub refused-step : {refusal : Refusal} → s.outcome ≡ Err refusal → {n : ℕ} → n ≡ number_of (Err refusal)
            → r ≡ report_length (Err n) counts.nonlinear counts.linear out → after ≡ report_out (Err n) counts.nonlinear counts.linear out
            → Puts out 0 (posed_after (step_of plan scratch)).text after r
        refused-step {refusal} e {n} k i h =
            let fit : room_of (Err n) ≤ length out = omega arith in
            let way : Err (number_of (Err refusal)) ≡ shown_of s.outcome part = ap (λ (x : Result (Unit {0}) Refusal). shown_of x part) (sym e) in
            puts-as (step-text (ap Err k ∙ way)) (report-puts (Err n) counts.nonlinear counts.linear out fit i h)

-- ---- a file
posed-by : (file : List ℕ) (scratch : List Float) {reading : Reading} {empty : Tables} → reading ≡ read_of file empty → empty ≡ empty_of
    → posed_by reading scratch ≡ pose_of file scratch
unfolding pose_of
posed-by file scratch e i = ap (λ (x : Reading). posed_by x scratch) (e ∙ ap (read_of file) i)

module _ (file : List ℕ) (scratch : List Float) (out : List ℕ) where
  -- what `pose` ensures of its answer r, and of the scratch and of out as it leaves them
  abbrev pub Poses : List Float → List ℕ → ℕ → Type 0
  Poses left after r = IsPrefixLen r after × ((r ≡ pose_length file scratch out)
      × ((after ≡ pose_out file scratch out) × (left ≡ pose_scratch file scratch out)))

  module _ (room : ROOM ≤ length out) {left : List Float} {after : List ℕ} {r : ℕ} where
    poses-some : {p : Posed} → p ≡ pose_of file scratch → Puts out 0 p.text after r → left ≡ p.scratch → Poses left after r
    poses-some {p} e h l =
        let within : r ≤ length after = omega (arith, h.within, same_length h) in
        let q : Puts out 0 (pose_of file scratch).text after r = puts-as (ap (λ (x : Posed). x.text) e) h in
        let text : List ℕ = (pose_of file scratch).text in (
          (within, sym (length-take-le r after within)),
          (
            simp (le-leb ROOM (length out) room) (q.ends ∙ zero-add (length text)),
            (
              simp (le-leb ROOM (length out) room) (q.holds ∙ ap (λ (k : ℕ). text ++ drop k out) (zero-add (length text))),
              simp (le-leb ROOM (length out) room) (l ∙ ap (λ (x : Posed). x.scratch) e),
            ),
          ),
        )

    module _ {reading : Reading} {empty : Tables} (e : reading ≡ read_of file empty) (f : empty ≡ empty_of) where
      pub poses-read : {plan : Plan} → reading ≡ Ok plan → Puts out 0 (posed_after (step_of plan scratch)).text after r
          → left ≡ (posed_after (step_of plan scratch)).scratch → Poses left after r
      poses-read i h l = poses-some (ap (λ (x : Reading). posed_by x scratch) (sym i) ∙ posed-by file scratch e f) h l

      pub poses-refused : {refusal : Refused} → reading ≡ Err refusal → {n : ℕ} → n ≡ read_number refusal.error
          → r ≡ report_length (Err n) 0 0 out → after ≡ report_out (Err n) 0 0 out → left ≡ scratch → Poses left after r
      poses-refused {refusal} i {n} k j h l =
          let way : record { text = report_of (Err n) 0 0; scratch = scratch } ≡ posed_by (Err refusal) scratch =
          ap (λ (j : ℕ). record { text = report_of (Err j) 0 0; scratch = scratch }) k in
          let fit : room_of (Err n) ≤ length out = omega arith in
          poses-some (way ∙ ap (λ (x : Reading). posed_by x scratch) (sym i) ∙ posed-by file scratch e f) (report-puts (Err n) 0 0 out fit j h) l
