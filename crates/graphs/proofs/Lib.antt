-- The rows, first: what changes a rule is told by the row that holds it.
pub mod Rows
-- Laws and theorems.
pub mod Nodes
pub mod Labels
pub mod Refusals
pub mod Blanks
pub mod Sound
pub mod Arrays
pub mod ArraySound
pub mod Owned
pub mod Follow
pub mod DepthGrowth
pub mod DepthCounts
pub mod Depth
pub mod Circles
pub mod Results
pub mod Places
pub mod Tails
pub mod Breadth
pub mod Queues
pub mod Room
pub mod Trees
pub mod Untouched
pub mod Agreeing
pub mod Stated
pub mod Renamed
pub mod CirclesRenamed
