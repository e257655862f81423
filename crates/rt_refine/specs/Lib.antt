pub mod Refinements
pub mod Laws
pub mod Uses
pub mod Ranks
pub mod Numbers
pub mod Groups
pub mod Splits
