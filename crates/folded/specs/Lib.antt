-- What a step leaves once it is tried.
pub mod Steps
