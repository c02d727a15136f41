-- Laws that the proofs of this crate's functions cite: Heads and RecordLaws of records, Readings of the reader. Examples has small files.
pub mod Examples
pub mod RecordLaws
pub mod Readings
