pub mod Sketches
pub mod States
pub mod Bounds
pub mod Growths
pub mod Unfoldings
pub mod Texts
pub mod Laws
pub mod Inside
