pub mod Ordered
pub mod Entering
pub mod Placed
pub mod Kept
pub mod Edging
pub mod Growing
