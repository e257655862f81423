pub mod Shrinking
pub mod Counting
pub mod Bounding
pub mod Trimmed
pub mod Parted
pub mod Joining
pub mod Staying
