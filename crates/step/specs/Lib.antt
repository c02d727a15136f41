-- Definitions that a reader must believe: Records, Checks, Bodies, Step, and Answered, which cites rows/specs/ExactGeometry. Words passes names on.
-- The contracts inside the crate are said with the places of Layout, with View and RunView (where the scratch holds what, and how the code's answers
-- are read), Says (of the two loops), ConcludeView (of `conclude` and `solve_in`) and Joined, what a run requires. The Laws are for proofs.
pub mod Words
pub mod Layout
pub mod Records
pub mod Checks
pub mod Bodies
pub mod View
pub mod Joined
pub mod Step
pub mod RunView
pub mod Says
pub mod ConcludeView
pub mod CheckLaws
pub mod NumberLaws
pub mod ViewLaws
pub mod BackLaws
pub mod TurnLaws
pub mod RunLaws
pub mod Answered
pub mod MeetLaws
