pub mod Near
pub mod Function
pub mod Values
pub mod Bits
pub mod Floats
pub mod Order
pub mod FloatRoot
