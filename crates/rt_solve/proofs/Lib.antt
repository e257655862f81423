mod Gathering
mod Linking
mod Ordering
pub mod Setting
mod Solving
mod Uniqueness
pub mod Coursing
pub mod Counting
pub mod Turned
pub mod Driving
