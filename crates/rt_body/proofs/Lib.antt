pub mod Within
mod Firsts
pub mod Numbering
mod Ranging
mod Operating
mod Transferred
mod Read
pub mod Asked
pub mod Uniqueness
