pub mod Members
pub mod Counts
pub mod Words
pub mod Rows
