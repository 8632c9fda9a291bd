pub mod Order
pub mod Grown
pub mod Laws
