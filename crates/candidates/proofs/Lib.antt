pub mod Spills
pub mod Bases
pub mod Unions
pub mod Words
