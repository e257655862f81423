pub mod Loose
pub mod Kinds
pub mod Ways
pub mod Sets
pub mod Laws
