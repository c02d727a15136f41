-- Definitions that a reader must believe: Fault, Body, Motions and Geometry, after mod.rs, body.rs and geometry.rs; ExactGeometry is
-- demand 3. Words passes names on. Count says how many rows a joint has, View where a slice holds a row, Answer how the code's answers
-- are read. The others are laws.
pub mod Words
pub mod Fault
pub mod Body
pub mod Unit
pub mod Motions
pub mod Geometry
pub mod Count
pub mod View
pub mod Answer
pub mod Append
pub mod Region
pub mod ExactGeometry
pub mod Laws
