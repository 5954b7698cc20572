pub mod Judged
pub mod Counts
pub mod Good
pub mod Shifts
