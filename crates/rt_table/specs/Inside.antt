-- Parts of the way: what loops and functions inside the crate say, and no public contract.
pub mod Words
pub mod Registers
pub mod Parts
pub mod Named
pub mod Naming
pub mod Framing
pub mod Taken
pub mod Writing
pub mod Told
