pub mod Making
pub mod Prefixes
pub mod Contents
pub mod Noding
pub mod Noting
