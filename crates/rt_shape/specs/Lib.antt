pub mod Graphs
pub mod Shapes
pub mod Laws
pub mod Inside
