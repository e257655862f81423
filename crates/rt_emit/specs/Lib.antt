pub mod Keys
pub mod Inside
