-- Definitions that a reader must believe: Text and Pose. The laws are for proofs.
pub mod Text
pub mod TextLaws
pub mod Pose
pub mod PoseLaws
