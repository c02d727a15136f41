-- How the reader goes: it notes where the records begin, and writes the tables once, at the end of the file. The contracts of its
-- parts cite this; what a file says is File's alone.
use Rattle.std.specs.Prelude.{ℕ, ◌+◌, ◌*◌, ◌≤◌, ◌<◌, List, ◌≡◌, length, get_or, set, drop, replicate, Float, Some, Result, Ok, Err}
use Rattle.std.proofs.Math.Seq.{paste}
use Rattle.arith.specs.Flow.{turns}
use Rattle.rows.specs.declared.geometry.Joint.{Joint}
use Rattle.plan.specs.declared.reader.Tables.{Tables}
use Rattle.plan.specs.declared.reader.ReadError.{ReadError}
use Rattle.plan.specs.declared.reader.Places.{Places}
use Rattle.plan.specs.declared.reader.Notes.{Notes}
use Rattle.plan.specs.File.{body_of, joint_of, JointThere, TIME_STEP, BODY, Reading, refused, ended_of, read_on, read_of}

-- ---- the places of records
abbrev pub no_places : Places
no_places = record { bytes = replicate 16 0; count = 0 }

abbrev pub with_place : ℕ → Places → Places
with_place at p = record { bytes = set p.bytes p.count at; count = p.count + 1 }

-- ---- the notes with one more record, which stands where they end
abbrev pub with_time_step : Float → Notes → Notes
with_time_step x t = record { at = t.at + TIME_STEP; dt = Some x; bodies = t.bodies; joints = t.joints }

abbrev pub with_body : Notes → Notes
with_body t = record { at = t.at + BODY; dt = t.dt; bodies = with_place t.at t.bodies; joints = t.joints }

abbrev pub with_joint : ℕ → Notes → Notes
with_joint n t = record { at = t.at + n; dt = t.dt; bodies = t.bodies; joints = with_place t.at t.joints }

-- ---- the tables with the records that are noted
-- body k, whose record begins at byte p
abbrev pub body_turn : List ℕ → ℕ → ℕ → List Float → List Float
body_turn file k p table = paste table (26 * k) (body_of (drop p file)) 26

abbrev pub bodies_from : List ℕ → Places → List Float → List Float
bodies_from file places table = turns (λ k. body_turn file k (get_or places.bytes k 0)) places.count table

-- joint k likewise
abbrev pub joint_turn : List ℕ → ℕ → ℕ → List Joint → List Joint
joint_turn file k p table = set table k (joint_of (drop p file))

abbrev pub joints_from : List ℕ → Places → List Joint → List Joint
joints_from file places table = turns (λ k. joint_turn file k (get_or places.bytes k 0)) places.count table

abbrev pub filled_of : List ℕ → Tables → Notes → Tables
filled_of file tables t =
    record {
      bodies = bodies_from file t.bodies tables.bodies;
      body_count = t.bodies.count;
      joints = joints_from file t.joints tables.joints;
      joint_count = t.joints.count;
    }

-- the tables are written where the file was read to its end
abbrev pub reading_of : List ℕ → Tables → Result Notes ReadError → Reading
reading_of file tables (Err e) = refused tables e
reading_of file tables (Ok t) = ended_of tables t.dt (filled_of file tables t)

-- ---- what a reading keeps
-- each of the places is one of which P holds
abbrev pub All : (ℕ → Type 0) → Places → Type 0
All P places = (k : ℕ) → k < places.count → P (get_or places.bytes k 0)

-- a record begins at byte p of the file, and stands there to its end
abbrev pub BodyAt : List ℕ → ℕ → Type 0
BodyAt file p = BODY ≤ length (drop p file)

abbrev pub JointAt : List ℕ → ℕ → Type 0
JointAt file p = JointThere (drop p file)

-- there is room in the notes, and each record that is noted is there
pub record There (file : List ℕ) (t : Notes) : Type 0 where
  pub body-space : length t.bodies.bytes ≡ 16
  pub joint-space : length t.joints.bytes ≡ 16
  pub few-bodies : t.bodies.count ≤ 16
  pub few-joints : t.joints.count ≤ 16
  pub bodies : All (BodyAt file) t.bodies
  pub joints : All (JointAt file) t.joints

abbrev pub ThereIf : List ℕ → Result Notes ReadError → Type 0
ThereIf file (Err e) = Unit {0}
ThereIf file (Ok t) = There file t

-- from the notes t on, where the part s of the file has fewer than n bytes, a reading comes to r
pub record Reaches (n : ℕ) (file : List ℕ) (tables : Tables) (s : List ℕ) (t : Notes) (r : Result Notes ReadError) : Type 0 where
  pub there : ThereIf file r
  pub is : reading_of file tables r ≡ read_on n s tables t.dt (filled_of file tables t)

abbrev pub Reads : List ℕ → Notes → Result Notes ReadError → Type 0
Reads s t r = (n : ℕ) (file : List ℕ) (tables : Tables) → length s < n → s ≡ drop t.at file → There file t → Reaches n file tables s t r

-- what the notes of a whole file make of the tables is what the file says
abbrev pub Noted : List ℕ → Result (Float × Notes) ReadError → Type 0
Noted file (Err e) = (tables : Tables) → refused tables e ≡ read_of file tables
Noted file (Ok n) = There file n.1 × ((tables : Tables) → Ok (record { dt = n.0; tables = filled_of file tables n.1 }) ≡ read_of file tables)
