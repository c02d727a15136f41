-- Laws of the definitions, proved, which other crates cite. `Met.met` is demand 3 for one joint; `Met.stands` is that a record handed back is a place.
pub mod Orthogonal
pub mod Results
pub mod SamePlace
pub mod Places
pub mod Anchors
pub mod Linear
pub mod Axes
pub mod Rods
pub mod RowsIn
pub mod Met
pub mod Frames
