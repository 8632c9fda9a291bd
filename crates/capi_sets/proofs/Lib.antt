-- Laws that belong to no one function.
pub mod Layers
pub mod Lists
pub mod Feeds
