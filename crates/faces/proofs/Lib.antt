pub mod Rank
pub mod First
pub mod Slots
pub mod Picks
pub mod Answer
