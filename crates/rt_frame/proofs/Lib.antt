mod Within
mod Spots
mod Inserted
mod Gathered
mod Takings
mod Asking
mod Arguments
mod Savings
mod Storing
mod Framed
pub mod Uniqueness
