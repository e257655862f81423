pub mod Memory
pub mod Puts
