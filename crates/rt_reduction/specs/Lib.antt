pub mod Before
pub mod Drops
pub mod Simplifies
pub mod Merges
pub mod Emits
pub mod Rounds
pub mod Constants
pub mod Laws
