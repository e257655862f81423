pub mod Deciding
pub mod Counting
pub mod Digits
