pub mod Loops
pub mod Cases
pub mod Merged
