pub mod Squares
pub mod Turns
pub mod Counts
pub mod Listed
pub mod Best
pub mod Cases
