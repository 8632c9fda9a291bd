-- Laws that belong to no one function.
pub mod Tests
pub mod Push
pub mod Walk
pub mod Puts
pub mod Answers
pub mod Listings
pub mod Recalls
pub mod Keeps
pub mod Order
pub mod Grown
pub mod Leaves
pub mod Sorted
pub mod Closed
pub mod Outcomes
