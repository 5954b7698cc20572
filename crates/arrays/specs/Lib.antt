-- What the calls promise.
pub mod Arrays
pub mod Claims
-- What functions inside the crate ask of each other.
pub mod Grouping
pub mod Querying
