pub mod Claims
pub mod Lines
