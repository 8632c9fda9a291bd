pub mod Room
pub mod Cases
pub mod Refused
pub mod Within
