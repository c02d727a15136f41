-- What a step says: its answer is the definition's, and the joints of an accepted step are met by the records that it hands back.
-- SPECIFICATION §0, demands 1, 2 and 3.
use Rattle.std.specs.Prelude.{ℕ, ◌≤◌, ◌<◌, List, ◌≡◌, length, Float}
use Rattle.step.specs.Words.{go, stop, Joint, CollisionError, number, Place, record_place, Met, Stands, Proper, Report}
use Rattle.step.specs.Records.{SCRATCH, record_at, count_of_bodies}
use Rattle.step.specs.Checks.{number_of, joint_in, refusal_of}
use Rattle.step.specs.Step.{stepped, run_for, cleared, solve_of}

abbrev pub Zeroed : List Float → List Float → Type 0  -- the first 6,144 doubles are +0, the others as they were
Zeroed scratch left = (SCRATCH ≤ length scratch) × (left ≡ cleared scratch)

abbrev pub AtEnds : (Joint → Place → Place → Type 0) → List Float → Joint → Type 0  -- what Says says of a joint and the places of its two records
AtEnds Says bodies joint = Says joint (record_place (record_at bodies joint.body_a)) (record_place (record_at bodies joint.body_b))

pub record Answered (bodies after : List Float) (joints : List Joint) (count : ℕ) (dt : Float) (scratch left : List Float) (r : Report) : Type 0 where
  -- demand 2: answer, counts, bodies and scratch are those of the definition, for every input
  pub is : stepped r.outcome r.nonlinear r.linear after left ≡ solve_of bodies joints count dt scratch
  -- demand 3, of an accepted step; these fields stand by themselves, whatever the definition says
  -- there are at most sixteen joints, all of them in the table
  pub few : r.outcome ≡ go tt → (count ≤ 16) × (count ≤ length joints)
  -- each record handed back stands: its numbers are finite, and N is above 0
  pub stands : r.outcome ≡ go tt → (k : ℕ) → k < count_of_bodies after → Stands (record_at after k).origin (record_at after k).rotation
  -- every joint that went in joins two of the records handed back
  pub joins : r.outcome ≡ go tt → (k : ℕ) → k < count
      → ((joint_in joints k).body_a < count_of_bodies after) × ((joint_in joints k).body_b < count_of_bodies after)
  -- every number of it is finite, and no N is 0
  pub proper : r.outcome ≡ go tt → (k : ℕ) → k < count → AtEnds Proper after (joint_in joints k)
  -- it is met by the records that it joins
  pub meets : r.outcome ≡ go tt → (k : ℕ) → k < count → AtEnds Met after (joint_in joints k)
  -- where the run ends by a fault, the answer has the fault's number
  pub faulted : refusal_of bodies joints count dt (length scratch) ≡ go tt → (fault : CollisionError)
      → (run_for bodies joints count dt).ends ≡ stop fault → number_of r.outcome ≡ number fault
  -- a refusal leaves the bodies
  pub refused : 1 ≤ number_of r.outcome → after ≡ bodies
  -- 1 to 9 leave the scratch too, and report both counts 0
  pub early : 1 ≤ number_of r.outcome → number_of r.outcome ≤ 9 → (left ≡ scratch) × (r.nonlinear ≡ 0) × (r.linear ≡ 0)
  -- every other answer zeroes the scratch
  pub accepted : r.outcome ≡ go tt → Zeroed scratch left
  pub late : 10 ≤ number_of r.outcome → Zeroed scratch left
