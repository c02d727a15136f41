-- What `pose` does with a plan file: its bytes in, the bytes of the report out.
-- File says what a file holds and which refusal it meets, step/specs/Step what the step does, Text what is printed.
use Rattle.std.specs.Prelude.{ℕ, ◌*◌, List, cond, leb, length, take, replicate, Float, Result, Ok, Err}
use Rattle.std.specs.Float.{binary64}
use Rattle.std.specs.Float.Ieee.{of_bits}
use Rattle.step.specs.Records.{RECORD, SCRATCH}
use Rattle.step.specs.declared.Refusal.{Refusal}
use Rattle.step.specs.Checks.{number_of}
use Rattle.step.specs.Step.{Stepped, solve_of}
use Rattle.plan.specs.declared.reader.Plan.{Plan}
use Rattle.plan.specs.File.{read_number, Reading, empty_of, read_of}
use Rattle.report.specs.Text.{Answer, report_of, length_in, text_in}

-- a report, and what the scratch holds after it
pub record Posed : Type 0 where
  pub text : List ℕ
  pub scratch : List Float

-- a step of the bodies and joints that were read, over the scratch that is lent
unfoldable pub step_of : Plan → List Float → Stepped
step_of plan scratch =
    let t = plan.tables in
    solve_of (take (RECORD * t.body_count) t.bodies) (take t.joint_count t.joints) t.joint_count plan.dt scratch

-- an accepted step shows its bodies, and refusals 1 to 12 their number
abbrev pub shown_of : Result (Unit {0}) Refusal → List Float → Answer
shown_of (Ok _) bodies = Ok bodies
shown_of (Err refusal) bodies = Err (number_of (Err refusal))

-- both print the counts
abbrev pub posed_after : Stepped → Posed
posed_after s = record { text = report_of (shown_of s.outcome s.bodies) s.nonlinear s.linear; scratch = s.scratch }

-- a file that was read is stepped; after refusals 13 to 18 there is no step, and both counts are 0
abbrev pub posed_by : Reading → List Float → Posed
posed_by (Ok plan) scratch = posed_after (step_of plan scratch)
posed_by (Err refusal) scratch = record { text = report_of (Err (read_number refusal.error)) 0 0; scratch = scratch }

unfoldable pub pose_of : List ℕ → List Float → Posed
pose_of file scratch = posed_by (read_of file empty_of) scratch

-- ---- where it goes
-- room enough for every report: a first line of at most 66 bytes, and sixteen bodies of at most 242
abbrev pub ROOM : ℕ
ROOM = 3938

-- in a slice with this room the text stands at the head, and the bytes behind it are as they were; a shorter one is left alone,
-- with the length 0, and so is the scratch
abbrev pub pose_length : List ℕ → List Float → List ℕ → ℕ
pose_length file scratch out = length_in out ROOM (pose_of file scratch).text

abbrev pub pose_out : List ℕ → List Float → List ℕ → List ℕ
pose_out file scratch out = text_in out ROOM (pose_of file scratch).text

abbrev pub pose_scratch : List ℕ → List Float → List ℕ → List Float
pose_scratch file scratch out = cond (leb ROOM (length out)) (pose_of file scratch).scratch scratch

-- the scratch of the programs: 6,144 doubles, each +0
abbrev pub fresh : List Float
fresh = replicate SCRATCH (of_bits binary64 0)
