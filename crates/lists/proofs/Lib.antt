pub mod Tests
pub mod Members
pub mod Counts
pub mod Words
