-- Parts of the way: what loops and functions inside the crate say, and no public contract.
pub mod Places
