pub mod Root
pub mod RootOf
pub mod FloatRoot
pub mod Laws
