pub mod Floats
pub mod Requests
pub mod Told
