pub mod Entries
pub mod Lists
pub mod Booleans
pub mod Numbers
pub mod Options
