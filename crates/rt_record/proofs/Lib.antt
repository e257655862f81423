pub mod Moving
pub mod Places
pub mod Carrying
pub mod Splitting
pub mod Numbered
pub mod Naming
pub mod Sparing
pub mod Counting
