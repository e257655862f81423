pub mod Labels
pub mod Kinds
pub mod Trees
pub mod Pairs
pub mod Laws
pub mod Partitions
pub mod Inside
