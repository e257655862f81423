pub mod Rules
pub mod Alike
pub mod Put
pub mod Laws
pub mod Paper
pub mod Reduced
