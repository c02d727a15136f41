-- Definitions that a reader must believe: Fraction (ℚ and its order) and Value (the value of a Float). The others are laws and tests over them.
pub mod Fraction
pub mod Value
pub mod Rat
pub mod Ring
pub mod Grid
pub mod Abs
pub mod RingQ
pub mod Val
pub mod Check
pub mod Cert
pub mod Compare
pub mod Sign
pub mod Relative
pub mod Given
pub mod Hypot
