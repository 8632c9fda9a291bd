pub mod Frames
pub mod Runs
pub mod Feeds
pub mod Whole
