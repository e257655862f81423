pub mod Checks
pub mod Effects
pub mod Kinds
pub mod Laws
pub mod Links
pub mod Pointers
pub mod RelocationTypes
