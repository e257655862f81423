-- Parts of the way: what loops and functions inside the crate say, and no public contract.
pub mod GoodRows
pub mod Guesses
pub mod Drafts
pub mod Endings
pub mod Steps
