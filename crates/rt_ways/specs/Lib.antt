pub mod Arcs
pub mod Pushes
pub mod Nets
pub mod Inside
