-- Small files, worked out by the definitions themselves.
use Prim.Native.Nat.{ℕ}
use mathlib.Core.Path.{◌≡◌, refl}
use mathlib.Core.List.{List, [], ◌∷◌, ◌++◌}
use lib.ListN.{replicate}
use lib.Ieee.{binary64, of_bits}
use Rattle.std.specs.Prelude.{Ok, Err}
use Rattle.plan.specs.File.{read_number, Reading, read_of, read_on, next_of, head_of, time_step_head, body_head, joint_head, empty_of, emptied, double}
use Rattle.plan.specs.File.{with_body, with_joint}

-- a time step of 1
one : List ℕ
one = 68 ∷ 84 ∷ 0 ∷ 0 ∷ 0 ∷ 0 ∷ 0 ∷ 0 ∷ 240 ∷ 63 ∷ []

-- a joint of a kind, cut after so many bytes behind the kind
joint : ℕ → ℕ → List ℕ
joint kind n = 74 ∷ 84 ∷ 0 ∷ 1 ∷ kind ∷ replicate n 0

-- a refusal's number, and 0 where the file was read
number_in : Reading → ℕ
number_in (Ok _) = 0
number_in (Err refusal) = read_number refusal.error

number : List ℕ → ℕ
number file = number_in (read_of file empty_of)

numbers : number one ∷ number [] ∷ number (one ++ (10 ∷ [])) ∷ number (100 ∷ 116 ∷ []) ∷ number (one ++ (68 ∷ 84 ∷ []))
    ∷ number (68 ∷ 84 ∷ []) ∷ number (74 ∷ 84 ∷ 0 ∷ 1 ∷ []) ∷ number (joint 6 0) ∷ number (joint 5 144) ∷ number (joint 5 143)
    ∷ number (66 ∷ 68 ∷ replicate 208 0) ∷ []
    ≡ 0 ∷ 18 ∷ 13 ∷ 13 ∷ 14 ∷ 17 ∷ 17 ∷ 16 ∷ 18 ∷ 17 ∷ 18 ∷ []
unfolding number number_in joint one read_of read_on next_of head_of time_step_head body_head joint_head empty_of with_body with_joint
numbers = refl

time-step : read_of one empty_of ≡ Ok (record { dt = of_bits binary64 0x3ff0_0000_0000_0000; tables = emptied empty_of })
unfolding one read_of read_on next_of head_of time_step_head empty_of double
time-step = refl
