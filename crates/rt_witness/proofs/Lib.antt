pub mod Fronts
pub mod There
pub mod Numbers
pub mod Names
