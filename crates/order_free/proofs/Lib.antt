pub mod Words
pub mod Orders
pub mod Grows
pub mod Deals
pub mod Reached
