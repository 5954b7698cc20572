-- What the walkers promise.
pub mod Promises
pub mod Rows
-- What every walk writes; the moves of a walk without recursion.
pub mod Writing
pub mod Moves
