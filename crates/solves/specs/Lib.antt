-- Definitions that a reader must believe: System, Solver, Path and Search, after solver.rs. Words passes names on. Layout, Region and View say
-- where the scratch holds what, PathView and OrderView what the path's arrays hold, Answer how the code's answers are read. Checked has
-- definitions that only contracts of private functions cite. The others are laws, for this crate and the step: RegionLaws and
-- ViewLaws of views, DoesLaws of calls one after the other and of an answer's number, LimitLaws of the passes that a solve counts at most.
pub mod Words
pub mod System
pub mod Solver
pub mod Path
pub mod Search
pub mod Layout
pub mod Region
pub mod View
pub mod Checked
pub mod Answer
pub mod PathView
pub mod OrderView
pub mod RegionLaws
pub mod DoesLaws
pub mod ViewLaws
pub mod LimitLaws
