-- Judging images.
pub mod Checks
