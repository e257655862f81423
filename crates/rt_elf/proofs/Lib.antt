pub mod Booleans
pub mod Ends
pub mod Joined
pub mod Lists
pub mod Reading
