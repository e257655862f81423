-- Parts of the way: what functions inside the crate say, and no public contract.
pub mod Courses
pub mod Turns
