-- The rows and the cards, first: what changes a rule is told by the row that holds it.
pub mod Rows
pub mod Cards
-- On any input: the run's tests, the state fields, the areas, demand 1, the marks.
pub mod Runs
pub mod Fields
pub mod Passed
pub mod Confined
pub mod AnyInput
pub mod Stated
pub mod Marks
-- On a sound profile: places, steps between them, the invariant, demands 2 and 3, no element on the blank.
pub mod Bent
pub mod Links
pub mod Steps
pub mod Future
pub mod Invariant
pub mod Running
pub mod Calls
pub mod Agreement
pub mod NoBlanks
pub mod Totals
-- A counted card; orders by phase.
pub mod Accepting
-- The wrong walkers.
pub mod Wrong
