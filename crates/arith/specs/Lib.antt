-- Definitions that a reader must believe: Real, Root, SquareRoot, Hypot, Fault, Angle, ExactSums, Flow and Run. Words passes names on, Answered has
-- what contracts say beside. The others are laws of them.
pub mod Words
pub mod Real
pub mod Root
pub mod SquareRoot
pub mod Hypot
pub mod Fault
pub mod Angle
pub mod ExactSums
pub mod Flow
pub mod Run
pub mod Answered
pub mod FlowLaws
pub mod RunLaws
pub mod UpToLaws
pub mod ChainLaws
pub mod RealLaws
pub mod Literals
pub mod Laws
