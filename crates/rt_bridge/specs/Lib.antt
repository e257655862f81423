pub mod Growing
pub mod Counted
pub mod Ways
pub mod Bounds
pub mod Laws
