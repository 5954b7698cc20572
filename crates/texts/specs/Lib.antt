-- What the reader promises.
pub mod Text
pub mod Loading
pub mod Answers
pub mod Claims
pub mod Rows
-- What functions inside the crate ask of each other.
pub mod Lines
