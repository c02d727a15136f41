-- Laws that the proofs of this crate's functions cite: Parts of the records that are lent, Texts of text put piece by piece, Poses of the calls.
-- Examples has small texts.
pub mod Examples
pub mod Parts
pub mod Poses
pub mod Texts
