pub mod Rows
pub mod Erasures
pub mod Inside
