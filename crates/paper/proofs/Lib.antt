pub mod Choice
pub mod GeometryFacts
pub mod Copies
pub mod Answering
