pub mod Pairing
pub mod Equal
pub mod Marking
pub mod Joining
pub mod Outlining
