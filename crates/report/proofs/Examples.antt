-- Small texts, worked out by the definitions themselves.
use mathlib.Core.Path.{◌≡◌, refl}
use mathlib.Core.List.{List, [], ◌∷◌, ◌++◌}
use lib.ListN.{replicate}
use lib.Ieee.{Float, binary64, of_bits, to_bits}
use Rattle.std.specs.Prelude.{Ok, Err}
use Rattle.arith.specs.Flow.{turns}
use Rattle.plan.specs.File.{read_of, read_on, next_of, head_of, empty_of}
use Rattle.report.specs.Text.{places, decimal_of, hex_of, field_of, counts_of, body_lines, ok_line, no_line, head_line, report_of}
use Rattle.report.specs.Pose.{pose_of}

-- "NO 10 32 0" and "OK 1 0" with a line end
texts : report_of (Err 10) 32 0 ++ report_of (Ok []) 1 0
    ≡ 78 ∷ 79 ∷ 32 ∷ 49 ∷ 48 ∷ 32 ∷ 51 ∷ 50 ∷ 32 ∷ 48 ∷ 10 ∷ 79 ∷ 75 ∷ 32 ∷ 49 ∷ 32 ∷ 48 ∷ 10 ∷ []
unfolding report_of head_line ok_line no_line counts_of decimal_of places body_lines turns
texts = refl

-- " bff0000000000000"
minus_one : field_of (of_bits binary64 0xbff0_0000_0000_0000) ≡ 32 ∷ 98 ∷ 102 ∷ 102 ∷ replicate 13 48
unfolding field_of hex_of of_bits to_bits
minus_one = refl

-- a file with no time step: "NO 18 0 0" with a line end
nothing : (scratch : List Float) → (pose_of [] scratch).text ≡ 78 ∷ 79 ∷ 32 ∷ 49 ∷ 56 ∷ 32 ∷ 48 ∷ 32 ∷ 48 ∷ 10 ∷ []
unfolding pose_of read_of read_on next_of head_of empty_of report_of head_line no_line counts_of decimal_of places
nothing scratch = refl
