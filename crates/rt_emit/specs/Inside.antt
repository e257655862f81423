-- Parts of the way: what loops and functions inside the crate say, and no public contract.
pub mod Queues
pub mod Letters
pub mod Bases
pub mod Writing
pub mod Joins
