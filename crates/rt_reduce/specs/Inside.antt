-- Parts of the way: what loops and functions inside the crate say, and no public contract.
pub mod Deciding
pub mod Alike
pub mod Bases
pub mod Dropping
pub mod Merging
pub mod Compared
pub mod Settling
pub mod Parting
pub mod Handing
pub mod Rounding
