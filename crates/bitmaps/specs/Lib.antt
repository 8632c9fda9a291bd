-- What the sets of ids mean.
pub mod Words
pub mod Walk
pub mod Answers
pub mod Laws
