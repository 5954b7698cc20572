-- What the calls answer, as callers see it.
pub mod Answers
