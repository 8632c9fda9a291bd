pub mod Best
pub mod Slots
pub mod Answer
pub mod Laws
