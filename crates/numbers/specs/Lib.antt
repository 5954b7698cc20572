pub mod Decimal
pub mod Answers
pub mod Padding
pub mod Claims
pub mod Examples
