pub mod Ascending
pub mod RowTexts
pub mod Rows
pub mod Runs
pub mod Drafts
pub mod Completing
pub mod Reading
pub mod RowParts
pub mod Sets
pub mod Listings
mod OneReport
