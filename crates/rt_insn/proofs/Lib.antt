pub mod Reading
pub mod Decoding
pub mod Words
pub mod Ranges
