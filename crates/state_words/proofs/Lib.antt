pub mod Handing
pub mod Opening
