pub mod Outsides
pub mod Laws
