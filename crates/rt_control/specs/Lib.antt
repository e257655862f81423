pub mod Control
pub mod Laws
pub mod Places
pub mod Runs
pub mod Sites
pub mod Tables
