-- Laws that the proofs of this crate's functions cite: one test that three doubles are finite, and one factor for three columns.
pub mod FiniteSum
pub mod Once
