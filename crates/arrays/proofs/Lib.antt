-- Array forms: queries, converting, what both are refused for.
pub mod Arrays
pub mod Firsts
pub mod Grouping
pub mod Refusing
