pub mod Single
pub mod Projections
