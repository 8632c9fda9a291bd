-- Laws of the sets that belong to no one function.
pub mod Zip
pub mod Digits
pub mod Size
pub mod Rising
pub mod Ids
pub mod Members
