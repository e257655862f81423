pub mod Ends
pub mod Weakening
pub mod Entering
pub mod Fronts
pub mod Leaving
pub mod Rivals
pub mod Spoiling
