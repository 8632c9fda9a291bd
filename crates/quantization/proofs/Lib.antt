pub mod Sets
pub mod Bytes
pub mod Halves
pub mod Stored
pub mod Copies
