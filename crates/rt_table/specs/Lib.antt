pub mod Table
pub mod Facts
pub mod Lists
pub mod Bodies
pub mod Laws
pub mod Inside
