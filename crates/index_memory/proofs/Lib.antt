pub mod Lengths
pub mod Places
pub mod Stores
