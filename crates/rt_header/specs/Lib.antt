pub mod Erased
pub mod Met
pub mod Headers
pub mod Laws
pub mod Inside
