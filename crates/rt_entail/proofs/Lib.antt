pub mod Reading
pub mod Judging
