pub mod ItemRows
pub mod Templates
pub mod TableRows
pub mod Choosing
pub mod AllBelow
pub mod OneUnfolding
