pub mod Questions
pub mod Frames
pub mod Told
pub mod Inside
