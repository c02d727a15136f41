-- Laws that the proofs of this crate's functions cite, each file over those above it: from the loads and stores of bodies.rt to `solve` as a whole.
pub mod StepLaws
pub mod BodyLaws
pub mod AnsweredLaws
pub mod MotionLaws
pub mod FrameLaws
pub mod EachLaws
pub mod TableLaws
pub mod RowLaws
pub mod LoopLaws
pub mod PassLaws
pub mod VelocityLaws
pub mod NonlinearLaws
pub mod CountLaws
pub mod FinishLaws
