-- What is drawn, and what a digest is.
pub mod Draws
pub mod Digests
