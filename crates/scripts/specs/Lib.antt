-- What a script of calls says, and what it leaves.
pub mod Script
