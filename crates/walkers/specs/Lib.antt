pub mod Claims
pub mod TwoLines
