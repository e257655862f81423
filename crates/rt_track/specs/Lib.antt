pub mod Values
pub mod Candidates
pub mod Placed
pub mod Operations
pub mod Changes
pub mod Told
pub mod Tracked
pub mod Inside
