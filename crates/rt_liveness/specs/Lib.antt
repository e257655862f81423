pub mod Programs
pub mod Reads
pub mod Gives
pub mod Takes
pub mod Calls
pub mod Told
pub mod Ends
pub mod Inside
