mod Changing
pub mod Holding
mod Writing
