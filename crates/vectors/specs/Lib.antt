-- Definitions that a reader must believe: Vector, Matrix and Quaternion, after vector.rs, matrix.rs and quaternion.rs. Words passes names
-- on, Answered has what contracts say beside. The others are laws of them.
pub mod Words
pub mod Vector
pub mod Matrix
pub mod Quaternion
pub mod Answered
pub mod VectorLaws
pub mod Laws
