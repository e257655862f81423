pub mod Plain
pub mod Comparing
pub mod Joined
