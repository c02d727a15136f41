-- What `pose` prints on an input.
use Rattle.std.specs.Prelude.{ℕ, Result, Ok, Err, List, [], take}
use Rattle.streams.specs.declared.Input.{Input}
use Rattle.streams.specs.declared.Unread.{Unread}
use Rattle.report.specs.Pose.{pose_of, fresh}

-- the report on the bytes that came, and nothing after a failed read
abbrev pub answer_to : List ℕ → Result ℕ Unread → List ℕ
answer_to bytes (Ok count) = (pose_of (take count bytes) fresh).text
answer_to bytes (Err unread) = []

abbrev pub printed : Input → List ℕ
printed input = answer_to input.bytes input.got
