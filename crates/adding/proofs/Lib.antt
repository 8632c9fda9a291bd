pub mod Shape
pub mod Turns
pub mod Cases
pub mod Accepted
pub mod Faces
pub mod Kept
