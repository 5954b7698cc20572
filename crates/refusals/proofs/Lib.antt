-- What a caller of a refused call concludes.
pub mod Numbers
