-- What a controller sees of the calls with a text, in words.
pub mod Told
