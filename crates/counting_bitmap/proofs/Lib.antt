-- Laws of the layers that belong to no one function.
pub mod AllLayers
pub mod Counting
pub mod Kept
pub mod Dropped
pub mod Highest
pub mod TopK
pub mod Stop
pub mod Places
pub mod Checks
