pub mod Runs
pub mod Played
pub mod Laws
