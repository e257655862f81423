pub mod Signs
pub mod Equal
pub mod NameLists
pub mod OrderCells
pub mod Distinct
pub mod Deduplicating
pub mod LineSides
pub mod Same
