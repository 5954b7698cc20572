-- What a controller sees of the calls with a state, in words.
pub mod Handed
