pub mod Bf16
pub mod Bytes
pub mod Stored
pub mod Copies
pub mod Laws
