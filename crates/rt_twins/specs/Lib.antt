pub mod Twinnings
pub mod Laws
pub mod Inside
