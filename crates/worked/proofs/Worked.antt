-- Small plans worked by the definition itself, in computed tests: outcome, both counts and every double handed back are the oracle's, bit for bit.
-- Each plan is plans/worked/NAME.plan, written by tools/make_worked.py, with the oracle's answer beside it in NAME.out.
use Prim.Native.Nat.{ℕ, ◌^◌, ◌≤◌}
use mathlib.Core.Path.{◌≡◌, refl, ap, ◌∙◌}
use mathlib.Core.List.{List, [], ◌∷◌, ◌++◌, map}
use mathlib.Core.Bool.{Bool, not}
use borrow.Author.Tests.{le-ltb}
use lib.Dec.{ltb}
use lib.ListN.{length}
use lib.Ieee.{Float, add, sub, mul, div, neg, lt, le, eq, round, of_bits}
use Rattle.arith.specs.Real.{F, ratio, is_finite, abs_of}
use Rattle.arith.specs.Root.{root_in, root, round_root, sqrt}
use Rattle.arith.specs.Hypot.{scaled_root, hypot_of}
use Rattle.arith.specs.Angle.{factorial, horner, sine_sum, cosine_sum, sums_at, doubled, halved_of, sin_cos_of}
use Rattle.arith.specs.Flow.{Turn, go, stop, and_then, ◌>>=◌, return_if, turns, loop, tab, every}
use Rattle.arith.specs.Run as Run
use Rattle.vectors.specs.declared.quaternion.Quat.{Quat}
use Rattle.vectors.specs.Vector.{zero_vec, normalize_by, checked_length_of}
use Rattle.vectors.specs.Matrix as Matrix
use Rattle.vectors.specs.Matrix.{triple, mat_product_of, correction_of, entry_of, factor_row_of, factor_of, factor_spd_of}
use Rattle.vectors.specs.Matrix.{solve_spd_of, inverse_by, inverse_spd_of}
use Rattle.vectors.specs.Quaternion.{quat, is_normalized_of, rotate_vector_of, to_mat3_of, delta_of, integrate_of}
use Rattle.rows.specs.declared.geometry.Kind.{Kind}
use Rattle.rows.specs.declared.geometry.Kind.TheVariants.{Hinge, Distance}
use Rattle.rows.specs.declared.geometry.Joint.{Joint}
use Rattle.rows.specs.Fault.{try_finite}
use Rattle.rows.specs.Body.{world_center_of_mass_of, new_of, inverse_angular_mass_of, kick_of, anchor_of, pass_of, drift_of, origin_of, state_of}
use Rattle.rows.specs.Geometry.{ends_of, tolerance_of, distance_row, linear_row, linear_rows, aligned_of, align_rows, frame_rows, write_equality_rows}
use Rattle.solves.specs.Solver.{dot, pushed, push_into, push_row, transpose, scaled, rate, operator, through, cross_end, cross_mass, difference, within}
use Rattle.solves.specs.Solver.{tolerance_for}
use Rattle.solves.specs.Path.{note_row, path_blocks, with_block, add_edge, block_edges, path_edges, other_block, neighbor, follows, next_block, visit}
use Rattle.solves.specs.Path.{walk_turn, walk, is_end, walk_from, path_walks, path_order, reduced, scale_at, path_entry, path_row, path_factor}
use Rattle.solves.specs.Path.{path_factored, forward_sum, backward_sum, forward, backward_turn, backward, refine}
use Rattle.solves.specs.System.{side_of}
use Rattle.solves.specs.Search.{refinement, path_along, choose, solve_by, linear_solve}
use Rattle.step.specs.declared.Refusal.{Refusal}
use Rattle.step.specs.declared.Refusal.TheVariants.{TimeStep, Bodies, Joints, Scratch, NonConvergent, ArithmeticOverflow, Ground}
use Rattle.step.specs.Checks.{time_step_ok, bodies_fit, sizes_or, bodies_or, joints_or, refusal_of}
use Rattle.step.specs.Records.{SCRATCH, count_of_bodies}
use Rattle.step.specs.Bodies.{start_bodies, write_rows, mass_response, prepare_masses, start_of, move_bodies, rows_met, rhs_of, add_impulses, candidate_of}
use Rattle.step.specs.Bodies.{velocity_of, velocity_rhs, compatible_of, kick_bodies, reaction_of, states_of}
use Rattle.step.specs.Step.{nonlinear_pass, nonlinear_loop, velocity_pass, velocity_loop, finish_of, run_of, run_for, Stepped, stepped, grounded}
use Rattle.step.specs.Step.{hand_back, cleared, concluded, solve_of}

record Plan : Type 0 where
  bodies : List Float
  joints : List Joint
  dt : Float

-- With any scratch that is long enough the plan's step gives this answer, these counts and these bodies, and the scratch is cleared.
abbrev Works : Plan → Turn (Unit {0}) Refusal → ℕ → ℕ → List Float → Type 0
Works plan outcome nonlinear linear bodies =
    (scratch : List Float) → SCRATCH ≤ length scratch →
    solve_of plan.bodies plan.joints (length plan.joints) plan.dt scratch
    ≡ stepped outcome nonlinear linear bodies (cleared scratch)

-- ---- what is computed, with no scratch in it: the refusals for one of 6,144 doubles, and the run's end for any
-- All that is met on the way unfolds, from the step down to the arithmetic.
refusal : Plan → Turn (Unit {0}) Refusal
unfolding refusal_of sizes_or bodies_or joints_or
    is_normalized_of
    correction_of entry_of factor_row_of factor_of factor_spd_of Matrix.factor_solve_of solve_spd_of inverse_by inverse_spd_of
    sqrt round_root root root_in
    and_then turns loop every is_finite abs_of add sub mul div neg lt le eq round
refusal plan = refusal_of plan.bodies plan.joints (length plan.joints) plan.dt SCRATCH

ended : Plan → List Float → Stepped
unfolding start_bodies write_rows mass_response prepare_masses start_of move_bodies rows_met rhs_of add_impulses candidate_of
    velocity_of velocity_rhs compatible_of kick_bodies reaction_of states_of
    nonlinear_pass nonlinear_loop velocity_pass velocity_loop finish_of run_of grounded hand_back
    dot pushed push_into push_row transpose scaled rate operator through cross_end cross_mass difference within tolerance_for
    note_row path_blocks with_block add_edge block_edges path_edges other_block neighbor follows next_block
    visit walk_turn walk is_end walk_from path_walks path_order
    reduced scale_at path_entry path_row path_factor path_factored forward_sum backward_sum forward backward_turn backward refine
    side_of refinement path_along choose solve_by linear_solve
    ends_of tolerance_of distance_row linear_row linear_rows aligned_of align_rows frame_rows write_equality_rows
    world_center_of_mass_of new_of inverse_angular_mass_of kick_of anchor_of pass_of drift_of origin_of state_of try_finite
    is_normalized_of rotate_vector_of to_mat3_of delta_of integrate_of
    mat_product_of correction_of entry_of factor_row_of factor_of factor_spd_of Matrix.factor_solve_of solve_spd_of inverse_by inverse_spd_of
    normalize_by checked_length_of
    factorial horner sine_sum cosine_sum sums_at doubled halved_of sin_cos_of
    hypot_of scaled_root sqrt round_root root root_in
    and_then turns loop tab every Run.◌>>=◌ Run.fail_if Run.leave_if Run.up_to is_finite abs_of of_bits add sub mul div neg lt le eq round
ended plan scratch = concluded plan.bodies scratch (run_for plan.bodies plan.joints (length plan.joints) plan.dt)

-- test 4 alone reads the scratch's length
long-enough : (bodies : List Float) (joints : List Joint) (count : ℕ) (dt : Float) (n : ℕ) → SCRATCH ≤ n
    → refusal_of bodies joints count dt n ≡ refusal_of bodies joints count dt SCRATCH
unfolding refusal_of sizes_or
long-enough bodies joints count dt n h =
    ap (λ (short : Bool).
    (return_if (not (time_step_ok dt)) TimeStep >>= λ _. return_if (not (bodies_fit (length bodies))) Bodies
    >>= λ _. return_if (ltb 16 count) Joints >>= λ _. return_if short Scratch)
    >>= λ _. bodies_or bodies (count_of_bodies bodies) >>= λ _. joints_or joints count (count_of_bodies bodies))
    (le-ltb n SCRATCH h)

works :
    (plan : Plan) {outcome : Turn (Unit {0}) Refusal} {nonlinear linear : ℕ} {bodies : List Float} →
    refusal plan ≡ go tt → ((scratch : List Float) → ended plan scratch ≡ stepped outcome nonlinear linear bodies scratch) →
    Works plan outcome nonlinear linear bodies
unfolding solve_of refusal ended
works plan passes ends scratch room =
    ap (λ (tested : Turn (Unit {0}) Refusal).
    elim tested [ stop refusal ↦ stepped (stop refusal) 0 0 plan.bodies scratch | go _ ↦ ended plan (cleared scratch) ])
    (long-enough plan.bodies plan.joints (length plan.joints) plan.dt (length scratch) room ∙ passes)
    ∙ ends (cleared scratch)

-- ---- numbers, bodies and joints
abbrev 𝟘 : Float
𝟘 = ratio 0 1

abbrev 𝟙 : Float
𝟙 = ratio 1 1

abbrev half : Float
half = ratio 1 2

abbrev whole : ℕ → Float
whole n = ratio n 1

abbrev zeros : List Float
zeros = triple 𝟘 𝟘 𝟘

-- what no step changes: mass, a centre at the origin, an inertia along the axes
abbrev fixed : Float → Float → Float → Float → List Float
fixed mass x y z = mass ∷ 𝟘 ∷ 𝟘 ∷ 𝟘 ∷ x ∷ 𝟘 ∷ 𝟘 ∷ 𝟘 ∷ y ∷ 𝟘 ∷ 𝟘 ∷ 𝟘 ∷ z ∷ []

abbrev ball : Float → List Float
ball mass = fixed mass 𝟙 𝟙 𝟙

-- a body that stands straight: origin, velocity, angular velocity
abbrev standing : List Float → List Float → List Float → List Float → List Float
standing origin velocity spin rest = origin ++ zeros ++ (𝟙 ∷ []) ++ velocity ++ spin ++ rest

-- a body handed back: 13 doubles by the bits that the oracle prints
abbrev back : List ℕ → List Float → List Float
back bits rest = map F bits ++ rest

abbrev straight : Quat
straight = quat 𝟘 𝟘 𝟘 𝟙

-- a joint of the origins of bodies 0 and 1, whose second frame is turned so
abbrev joint : Kind → Quat → Joint
joint kind turned = record {
  body_a = 0;
  body_b = 1;
  frame_a = record { local_anchor = zero_vec; local_rotation = straight };
  frame_b = record { local_anchor = zero_vec; local_rotation = turned };
  kind = kind;
}

abbrev rod : Float → Joint
rod length = joint (Distance length) straight

-- two balls of mass 1, the first at rest at the origin, the second there and so fast, with a joint
abbrev pair : List Float → List Float → Joint → Float → Plan
pair origin velocity joint dt =
    record { bodies = standing zeros zeros zeros (ball 𝟙) ++ standing origin velocity zeros (ball 𝟙); joints = joint ∷ []; dt = dt }

-- ---- the plans
-- the first example of SPECIFICATION §15 that is to be run
moving : Plan
moving = record { bodies = standing zeros (triple 𝟙 𝟘 𝟘) zeros (ball (whole 2)); joints = []; dt = 𝟙 }

moving-works : Works moving (go tt) 1 0
    (back (0x3ff0000000000000 ∷ 0 ∷ 0 ∷ 0 ∷ 0 ∷ 0 ∷ 0x3ff0000000000000 ∷ 0x3ff0000000000000 ∷ 0 ∷ 0 ∷ 0 ∷ 0 ∷ 0 ∷ []) (ball (whole 2)))
unfolding refusal ended moving
moving-works = works moving refl (λ _. refl)

-- turns about an axis of its inertia, by sine and cosine
turning : Plan
turning =
    record {
      bodies = standing (triple 𝟙 (whole 2) (whole 3)) (triple 𝟘 (neg (whole 4)) 𝟘) (triple 𝟘 𝟘 half) (fixed 𝟙 (whole 4) (whole 4) 𝟙);
      joints = [];
      dt = half;
    }

turning-works : Works turning (go tt) 1 0
    (back
    (0x3ff0000000000000 ∷ 0 ∷ 0x4008000000000000 ∷ 0 ∷ 0 ∷ 0x3fbfeaaeee86ee35 ∷ 0x3fefc015527d5bd2
    ∷ 0 ∷ 0xc010000000000000 ∷ 0 ∷ 0 ∷ 0 ∷ 0x3fe0000000000000 ∷ [])
    (fixed 𝟙 (whole 4) (whole 4) 𝟙))
unfolding refusal ended turning
turning-works = works turning refl (λ _. refl)

-- a rod that is met and stays so
met : Plan
met = pair (triple (whole 3) (whole 4) 𝟘) zeros (rod (whole 5)) 𝟙

met-works : Works met (go tt) 1 0
    (back (0 ∷ 0 ∷ 0 ∷ 0 ∷ 0 ∷ 0 ∷ 0x3ff0000000000000 ∷ 0 ∷ 0 ∷ 0 ∷ 0 ∷ 0 ∷ 0 ∷ []) (ball 𝟙)
    ++ back (0x4008000000000000 ∷ 0x4010000000000000 ∷ 0 ∷ 0 ∷ 0 ∷ 0 ∷ 0x3ff0000000000000 ∷ 0 ∷ 0 ∷ 0 ∷ 0 ∷ 0 ∷ 0 ∷ []) (ball 𝟙))
unfolding refusal ended met
met-works = works met refl (λ _. refl)

-- a rod pulled along itself: a second pass, after one linear solve
pulled : Plan
pulled = pair (triple (whole 2) 𝟘 𝟘) (triple 𝟙 𝟘 𝟘) (rod (whole 2)) half

pulled-works : Works pulled (go tt) 2 1
    (back (0x3fd0000000000001 ∷ 0 ∷ 0 ∷ 0 ∷ 0 ∷ 0 ∷ 0x3ff0000000000000 ∷ 0x3fe0000000000001 ∷ 0 ∷ 0 ∷ 0 ∷ 0 ∷ 0 ∷ []) (ball 𝟙)
    ++ back (0x4002000000000000 ∷ 0 ∷ 0 ∷ 0 ∷ 0 ∷ 0 ∷ 0x3ff0000000000000 ∷ 0x3fdffffffffffffe ∷ 0 ∷ 0 ∷ 0 ∷ 0 ∷ 0 ∷ []) (ball 𝟙))
unfolding refusal ended pulled
pulled-works = works pulled refl (λ _. refl)

-- a rod pulled across itself: a second linear solve evens out the speeds of its ends
swung : Plan
swung = pair (triple (whole 2) 𝟘 𝟘) (triple 𝟘 (ratio 1 (2 ^ 16)) 𝟘) (rod (whole 2)) 𝟙

swung-works : Works swung (go tt) 2 2
    (back (0x3dc0000000000001 ∷ 0 ∷ 0 ∷ 0 ∷ 0 ∷ 0 ∷ 0x3ff0000000000000 ∷ 0x3dd0000000000001 ∷ 0x3cb0000000020001 ∷ 0 ∷ 0 ∷ 0 ∷ 0 ∷ []) (ball 𝟙)
    ++ back
    (0x3ffffffffffe0000 ∷ 0x3ef0000000000000 ∷ 0 ∷ 0 ∷ 0 ∷ 0 ∷ 0x3ff0000000000000 ∷ 0xbdd0000000000001 ∷ 0x3eeffffffffe0000 ∷ 0 ∷ 0 ∷ 0 ∷ 0 ∷ []) (ball 𝟙))
unfolding refusal ended swung
swung-works = works swung refl (λ _. refl)

-- 10 before the first pass: a hinge whose axes are opposed
opposed : Plan
opposed = pair zeros zeros (joint Hinge (quat 𝟙 𝟘 𝟘 𝟘)) 𝟙

opposed-works : Works opposed (stop NonConvergent) 0 0 opposed.bodies
unfolding refusal ended opposed
opposed-works = works opposed refl (λ _. refl)

-- 10 in the first pass: the path's factor refuses one rod twice
twice : Plan
twice = record {
  bodies = standing zeros zeros zeros (ball half)
      ++ standing (triple 𝟙 𝟘 𝟘) (triple 𝟙 𝟘 𝟘) zeros (ball half)
      ++ standing zeros zeros zeros (ball 𝟙);
  joints = rod 𝟙 ∷ rod 𝟙 ∷ [];
  dt = 𝟙;
}

twice-works : Works twice (stop NonConvergent) 1 0 twice.bodies
unfolding refusal ended twice
twice-works = works twice refl (λ _. refl)

-- 11 before the first pass: a momentum too large
heavy : Plan
heavy = record { bodies = standing zeros (triple (whole (2 ^ 1023)) 𝟘 𝟘) zeros (ball (whole 2)); joints = []; dt = 𝟙 }

heavy-works : Works heavy (stop ArithmeticOverflow) 0 0 heavy.bodies
unfolding refusal ended heavy
heavy-works = works heavy refl (λ _. refl)

-- 11 in the first pass: the way of one step is too long
fast : Plan
fast = record { bodies = standing zeros (triple (whole (2 ^ 1023)) 𝟘 𝟘) zeros (ball 𝟙); joints = []; dt = whole 2 }

fast-works : Works fast (stop ArithmeticOverflow) 1 0 fast.bodies
unfolding refusal ended fast
fast-works = works fast refl (λ _. refl)

-- 12: beyond the ground
away : Plan
away = record { bodies = standing (triple (whole 8192) 𝟘 𝟘) (triple 𝟙 𝟘 𝟘) zeros (ball 𝟙); joints = []; dt = 𝟙 }

away-works : Works away (stop Ground) 1 0 away.bodies
unfolding refusal ended away
away-works = works away refl (λ _. refl)
