pub mod Sizes
pub mod Printing
