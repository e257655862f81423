pub mod Lengths
pub mod Procedures
