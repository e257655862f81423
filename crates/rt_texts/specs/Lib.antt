pub mod Texts
pub mod Goods
pub mod Readings
pub mod Laws
pub mod Inside
