pub mod Numbers
pub mod Padding
pub mod Examples
pub mod NumberLoops
