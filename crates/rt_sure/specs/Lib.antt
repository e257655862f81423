pub mod Arcs
pub mod Fates
pub mod Grounds
pub mod Shapes
pub mod Inside
