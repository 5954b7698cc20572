-- What the panel's calls promise, and what is claimed of them together.
pub mod Panel
pub mod Claims
pub mod GoodCards
