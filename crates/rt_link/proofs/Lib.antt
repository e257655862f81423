pub mod Checking
pub mod Held
pub mod Linked
pub mod Naming
pub mod Pairs
