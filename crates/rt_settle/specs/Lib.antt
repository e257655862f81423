pub mod Sorted
pub mod Chosen
pub mod Groups
pub mod Marks
