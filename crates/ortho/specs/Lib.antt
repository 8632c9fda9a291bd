pub mod Ortho
pub mod Laws
