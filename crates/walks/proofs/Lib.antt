-- What every walk writes, and the numbers of its refusals; the moves of depth-first walks, the scans of breadth-first ones.
pub mod Rows
pub mod Storing
pub mod Reading
pub mod Events
pub mod Blanks
pub mod Begins
pub mod Writing
pub mod Numbers
pub mod ArrayBegins
pub mod Moves
pub mod Scans
