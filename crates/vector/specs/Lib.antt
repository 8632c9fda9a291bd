pub mod Fold
pub mod Finite
pub mod Norm
pub mod Laws
