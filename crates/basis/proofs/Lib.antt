pub mod Projections
pub mod Sides
pub mod Bases
