pub mod Reaching
pub mod Keeping
pub mod Entering
pub mod Derived
