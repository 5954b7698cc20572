pub mod Stores
pub mod Forwards
pub mod Backs
pub mod Picked
pub mod Driving
