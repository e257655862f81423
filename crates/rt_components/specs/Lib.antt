pub mod Graphs
pub mod Groups
pub mod Laws
pub mod Inside
