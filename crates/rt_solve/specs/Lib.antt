pub mod Solved
pub mod Runs
pub mod Claimed
pub mod Steps
pub mod Laws
pub mod Inside
