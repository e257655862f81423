pub mod Bodies
pub mod Blocks
pub mod Locations
pub mod Tables
pub mod Reaching
pub mod Sources
pub mod Inside
