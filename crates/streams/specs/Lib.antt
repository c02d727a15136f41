-- Definitions that a reader must believe: Receive, what a reading of an input answers.
pub mod Receive
