pub mod GoodForms
pub mod KnownForms
pub mod OneForm
pub mod Once
pub mod Room
pub mod Running
pub mod Tabled
