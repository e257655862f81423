pub mod Word
pub mod Format
pub mod Table
pub mod Range
pub mod Inside
