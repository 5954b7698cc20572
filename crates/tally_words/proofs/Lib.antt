pub mod Numbers
mod Handing
