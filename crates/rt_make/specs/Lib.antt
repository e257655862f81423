pub mod Layout
pub mod Packed
pub mod Made
