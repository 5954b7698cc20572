-- What `walk` prints.
pub mod Printed
pub mod Report
pub mod Example
pub mod Claims
-- What functions inside the crate ask of each other.
pub mod Inside
