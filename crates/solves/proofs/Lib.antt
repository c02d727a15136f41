-- Laws that the proofs of this crate cite, each file over those above it: of sums, of vectors, of the operator, of the searches, of the path, and
-- of `linear_solve`.
pub mod SumLaws
pub mod VectorLaws
pub mod CheckedLaws
pub mod OperatorLaws
pub mod SearchLaws
pub mod LeastLaws
pub mod GradientLaws
pub mod BlockLaws
pub mod WalkLaws
pub mod FactorLaws
pub mod SweepLaws
pub mod SolveLaws
