-- Laws that belong to no one function.
pub mod Places
pub mod Singles
pub mod Projections
