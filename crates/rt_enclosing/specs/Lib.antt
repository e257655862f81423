pub mod Lower
pub mod Upper
pub mod Implicit
pub mod Turning
pub mod Laws
