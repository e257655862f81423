pub mod Plans
pub mod Driver
pub mod Laws
pub mod Inside
pub mod Turns
