mod Declaring
mod Goodness
mod Lined
mod Naming
mod Placing
mod Reporting
mod Single
mod Ordered
mod Sketching
mod Stopping
mod Wording
pub mod Refusing
