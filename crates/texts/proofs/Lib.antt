-- The text of a profile; reading it, loading it.
pub mod Plain
pub mod Texts
pub mod Reading
pub mod Loads
pub mod Alike
pub mod Linking
pub mod Rows
