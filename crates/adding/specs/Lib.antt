pub mod Adding
pub mod Laws
