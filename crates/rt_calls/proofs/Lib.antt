pub mod Adding
pub mod Calling
pub mod Placing
pub mod Same
