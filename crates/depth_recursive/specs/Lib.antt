pub mod Recursive
