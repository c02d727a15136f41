-- Laws of the definitions, proved, which other crates cite.
pub mod Tests
pub mod Back
pub mod Length
pub mod Fractions
pub mod Options
pub mod Normal
pub mod Turn
pub mod Rotation
pub mod Sizes
pub mod UnitTest
pub mod Product
pub mod AsUnit
