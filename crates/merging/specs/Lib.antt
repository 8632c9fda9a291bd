pub mod Merging
pub mod Laws
