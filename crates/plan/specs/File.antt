-- The plan file of SPECIFICATION §12: what a file says, the refusals 13 to 18, and the tables that are read from it.
-- A file is a list of bytes. The tests and the records below look at its head; what comes after a record is read in the same way.
use Rattle.std.specs.Prelude.{ℕ, zero, suc, ◌+◌, ◌*◌, ◌≤◌, List, [], ◌∷◌, Bool, cond, ◌&&◌, ltb, leb, eqb, length, get_or, set, drop, replicate}
use Rattle.std.specs.Prelude.{Float, Option, None, Some, is_some, Result, Ok, Err}
use Rattle.std.proofs.Math.Seq.{paste}
use Rattle.std.specs.Float.{binary64}
use Rattle.std.specs.Float.Ieee.{of_bits}
use Rattle.arith.specs.Flow.{tab}
use Rattle.rows.specs.declared.geometry.JointFrame.{JointFrame}
use Rattle.rows.specs.declared.geometry.Kind.{Kind}
use Rattle.rows.specs.declared.geometry.Kind.TheVariants.{Ball, Hinge, Cylindrical, Planar, Distance, ConeTwist}
use Rattle.rows.specs.declared.geometry.Joint.{Joint}
use Rattle.plan.specs.declared.kind.JointKind.{JointKind}
use Rattle.plan.specs.declared.kind.JointKind.TheVariants as kind
use Rattle.plan.specs.declared.reader.Tables.{Tables}
use Rattle.plan.specs.declared.reader.Plan.{Plan}
use Rattle.plan.specs.declared.reader.Refused.{Refused}
use Rattle.plan.specs.declared.reader.ReadError.{ReadError}
use Rattle.plan.specs.declared.reader.ReadError.TheVariants.{Mark, SecondTimeStep, TooMany, KindByte, Truncated, NoTimeStep}
use Rattle.plan.specs.declared.reader.Record.{Record}
use Rattle.plan.specs.declared.reader.Record.TheVariants as found

-- the numbers of the refusals
abbrev pub read_number : ReadError → ℕ
read_number Mark = 13
read_number SecondTimeStep = 14
read_number TooMany = 15
read_number KindByte = 16
read_number Truncated = 17
read_number NoTimeStep = 18

-- ---- the layout: the marks, in ASCII, how many bytes a record has, its mark among them, and from which byte on it has what
abbrev pub DT : List ℕ
DT = 68 ∷ 84 ∷ []

abbrev pub BD : List ℕ
BD = 66 ∷ 68 ∷ []

abbrev pub JT : List ℕ
JT = 74 ∷ 84 ∷ []

-- the first double of a time step or a body
abbrev pub NUMBERS : ℕ
NUMBERS = 2

abbrev pub TIME_STEP : ℕ
TIME_STEP = 10

abbrev pub BODY : ℕ
BODY = 210

-- a joint's bodies, its kind and its frames
abbrev pub SIDE_A : ℕ
SIDE_A = 2

abbrev pub SIDE_B : ℕ
SIDE_B = 3

abbrev pub KIND : ℕ
KIND = 4

abbrev pub FRAME_A : ℕ
FRAME_A = 5

abbrev pub FRAME_B : ℕ
FRAME_B = 61

-- behind them the one number of a distance, or the four of a cone with a twist
abbrev pub LENGTH : ℕ
LENGTH = 117

abbrev pub SWING_X : ℕ
SWING_X = 117

abbrev pub SWING_Y : ℕ
SWING_Y = 125

abbrev pub TWIST_LOWER : ℕ
TWIST_LOWER = 133

abbrev pub TWIST_UPPER : ℕ
TWIST_UPPER = 141

-- a joint of one of these, and of any other kind
abbrev pub DISTANCE : ℕ
DISTANCE = 125

abbrev pub CONE_TWIST : ℕ
CONE_TWIST = 149

abbrev pub JOINT : ℕ
JOINT = 117

-- the doubles of a body, and of the table of sixteen
abbrev pub DOUBLES : ℕ
DOUBLES = 26

abbrev pub TABLE : ℕ
TABLE = 16 * DOUBLES

abbrev pub joint_length : JointKind → ℕ
joint_length kind.Ball = JOINT
joint_length kind.Hinge = JOINT
joint_length kind.Cylindrical = JOINT
joint_length kind.Planar = JOINT
joint_length kind.Distance = DISTANCE
joint_length kind.ConeTwist = CONE_TWIST

-- the kinds by their bytes, 0 to 5
unfoldable pub kind_named : ℕ → JointKind
kind_named n =
    cond (eqb n 0) kind.Ball
    (cond (eqb n 1) kind.Hinge
    (cond (eqb n 2) kind.Cylindrical
    (cond (eqb n 3) kind.Planar
    (cond (eqb n 4) kind.Distance
    kind.ConeTwist))))

abbrev pub kind_byte : ℕ → Result JointKind ReadError
kind_byte n = cond (ltb 5 n) (Err KindByte) (Ok (kind_named n))

-- how long a joint's record is by its kind byte
abbrev pub joint_size : ℕ → ℕ
joint_size kind = cond (eqb kind 4) DISTANCE (cond (eqb kind 5) CONE_TWIST JOINT)

-- ---- bytes and doubles
abbrev pub byte : List ℕ → ℕ → ℕ
byte s i = get_or s i 0

-- the eight bytes at i, the least first
abbrev pub word : List ℕ → ℕ → ℕ
word s i =
    ((((((byte s (i + 7) * 256 + byte s (i + 6)) * 256 + byte s (i + 5)) * 256 + byte s (i + 4)) * 256 + byte s (i + 3)) * 256
    + byte s (i + 2)) * 256 + byte s (i + 1)) * 256 + byte s i

unfoldable pub double : List ℕ → ℕ → Float
double s i = of_bits binary64 (word s i)

-- ---- the records at the head of s, behind their marks
unfoldable pub body_of : List ℕ → List Float
body_of s = tab DOUBLES (λ k. double s (NUMBERS + 8 * k))

abbrev pub frame_at : List ℕ → ℕ → JointFrame
frame_at s i =
    record {
      local_anchor = record { x = double s i; y = double s (i + 8); z = double s (i + 16) };
      local_rotation = record { x = double s (i + 24); y = double s (i + 32); z = double s (i + 40); w = double s (i + 48) };
    }

abbrev pub cone_twist_of : List ℕ → Kind
cone_twist_of s = ConeTwist (double s SWING_X) (double s SWING_Y) (double s TWIST_LOWER) (double s TWIST_UPPER)

abbrev pub kind_in : List ℕ → JointKind → Kind
kind_in s kind.Ball = Ball
kind_in s kind.Hinge = Hinge
kind_in s kind.Cylindrical = Cylindrical
kind_in s kind.Planar = Planar
kind_in s kind.Distance = Distance (double s LENGTH)
kind_in s kind.ConeTwist = cone_twist_of s

unfoldable pub kind_of : List ℕ → Kind
kind_of s = kind_in s (kind_named (byte s KIND))

unfoldable pub joint_of : List ℕ → Joint
joint_of s =
    record {
      body_a = byte s SIDE_A;
      body_b = byte s SIDE_B;
      frame_a = frame_at s FRAME_A;
      frame_b = frame_at s FRAME_B;
      kind = kind_of s;
    }

-- a joint stands at the head of s, to its end
abbrev pub JointThere : List ℕ → Type 0
JointThere s = (byte s KIND ≤ 5) × (joint_size (byte s KIND) ≤ length s)

abbrev pub marked : List ℕ → List ℕ → Bool
marked s mark = eqb (byte s 0) (byte mark 0) && eqb (byte s 1) (byte mark 1)

-- ---- the tests at a record, in their order: what stands at the head of s, where these were read before it; nothing at the end
abbrev pub Head : Type 0
Head = Result (Option Record) ReadError

abbrev pub there_is : Record → Head
there_is r = Ok (Some r)

unfoldable pub time_step_head : List ℕ → Bool → Head
time_step_head s seen =
    cond seen (Err SecondTimeStep)
    (cond (ltb (length s) TIME_STEP) (Err Truncated)
    (there_is found.TimeStep))

unfoldable pub body_head : List ℕ → ℕ → Head
body_head s bodies =
    cond (leb 16 bodies) (Err TooMany)
    (cond (ltb (length s) BODY) (Err Truncated)
    (there_is found.Body))

unfoldable pub joint_head : List ℕ → ℕ → Head
joint_head s joints =
    cond (leb 16 joints) (Err TooMany)
    (cond (ltb (length s) FRAME_A) (Err Truncated)
    (cond (ltb 5 (byte s KIND)) (Err KindByte)
    (cond (ltb (length s) (joint_size (byte s KIND))) (Err Truncated)
    (there_is (found.Joint (joint_size (byte s KIND)))))))

unfoldable pub head_of : List ℕ → Bool → ℕ → ℕ → Head
head_of s seen bodies joints =
    cond (eqb (length s) 0) (Ok None)
    (cond (ltb (length s) 2) (Err Mark)
    (cond (marked s DT) (time_step_head s seen)
    (cond (marked s BD) (body_head s bodies)
    (cond (marked s JT) (joint_head s joints)
    (Err Mark)))))

-- ---- the tables with one more record; the rest of their space is as it was
unfoldable pub with_body : List ℕ → Tables → Tables
with_body s t =
    record {
      bodies = paste t.bodies (DOUBLES * t.body_count) (body_of s) DOUBLES;
      body_count = t.body_count + 1;
      joints = t.joints;
      joint_count = t.joint_count;
    }

unfoldable pub with_joint : List ℕ → Tables → Tables
with_joint s t =
    record {
      bodies = t.bodies;
      body_count = t.body_count;
      joints = set t.joints t.joint_count (joint_of s);
      joint_count = t.joint_count + 1;
    }

-- ---- the whole file
-- what a file says, or why it is refused: then the tables are those that came
abbrev pub Reading : Type 0
Reading = Result Plan Refused

abbrev pub refused : Tables → ReadError → Reading
refused tables e = Err (record { error = e; tables = tables })

-- at the end, where this time step and these records were read
abbrev pub ended_of : Tables → Option Float → Tables → Reading
ended_of tables None t = refused tables NoTimeStep
ended_of tables (Some x) t = Ok (record { dt = x; tables = t })

-- what follows from what stands at the head: `more n x u` reads on after n bytes, with the time step x and the tables u
unfoldable pub next_of : Head → List ℕ → Tables → Option Float → Tables → (ℕ → Option Float → Tables → Reading) → Reading
next_of (Err e) s tables dt t more = refused tables e
next_of (Ok None) s tables dt t more = ended_of tables dt t
next_of (Ok (Some found.TimeStep)) s tables dt t more = more TIME_STEP (Some (double s NUMBERS)) t
next_of (Ok (Some found.Body)) s tables dt t more = more BODY dt (with_body s t)
next_of (Ok (Some (found.Joint n))) s tables dt t more = more n dt (with_joint s t)

-- the file from here on, where it holds fewer than n records
unfoldable pub read_on : ℕ → List ℕ → Tables → Option Float → Tables → Reading
read_on zero s tables dt t = refused tables Truncated
read_on (suc n) s tables dt t =
    next_of (head_of s (is_some dt) t.body_count t.joint_count) s tables dt t (λ k x u. read_on n (drop k s) tables x u)

-- the tables that came, with no record counted
abbrev pub emptied : Tables → Tables
emptied t = record { bodies = t.bodies; body_count = 0; joints = t.joints; joint_count = 0 }

-- a file holds fewer records than one more than its bytes
unfoldable pub read_of : List ℕ → Tables → Reading
read_of file tables = read_on (suc (length file)) file tables None (emptied tables)

-- ---- tables with no records, every number +0
abbrev blank : JointFrame
blank =
    record {
      local_anchor = record { x = of_bits binary64 0; y = of_bits binary64 0; z = of_bits binary64 0 };
      local_rotation = record { x = of_bits binary64 0; y = of_bits binary64 0; z = of_bits binary64 0; w = of_bits binary64 0 };
    }

unfoldable pub empty_of : Tables
empty_of =
    record {
      bodies = replicate TABLE (of_bits binary64 0);
      body_count = 0;
      joints = replicate 16 (record { body_a = 0; body_b = 0; frame_a = blank; frame_b = blank; kind = Ball });
      joint_count = 0;
    }
