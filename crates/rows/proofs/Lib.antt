-- Laws that the proofs of this crate cite, each file over those above it; Starred has the examples of SPECIFICATION §15.
pub mod AppendLaws
pub mod UnitLaws
pub mod FiniteLaws
pub mod CountLaws
pub mod WriteLaws
pub mod Starred
