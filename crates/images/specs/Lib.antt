-- The image in two areas; what functions inside the crate ask of each other.
pub mod Checking
