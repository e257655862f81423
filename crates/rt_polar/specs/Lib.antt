pub mod Polar
pub mod Tidied
pub mod Puts
pub mod Laws
pub mod Index
pub mod Inside
