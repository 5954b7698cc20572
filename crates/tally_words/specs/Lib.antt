-- What a whole-run walk promises whose tally is stored in lent words.
pub mod Tallied
