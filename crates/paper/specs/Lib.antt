pub mod Choice
pub mod Geometry
pub mod Refusals
pub mod Laws
