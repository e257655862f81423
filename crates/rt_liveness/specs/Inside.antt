-- Parts of the way: what loops and functions inside the crate say, and no public contract.
pub mod Additions
pub mod Closures
pub mod Conditions
pub mod Signed
pub mod GivesRules
pub mod TakesRules
pub mod Interfaces
pub mod Found
