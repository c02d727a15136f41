-- Definitions that a reader must believe: File. The laws are for proofs.
pub mod File
pub mod FileLaws
pub mod FirstBytes
pub mod Noting
