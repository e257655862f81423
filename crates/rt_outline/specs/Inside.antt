-- Parts of the way: what loops and functions inside the crate say, and no public contract.
pub mod Found
pub mod Sweeps
pub mod Resting
pub mod Bounds
pub mod Sides
pub mod Stepping
pub mod Beside
