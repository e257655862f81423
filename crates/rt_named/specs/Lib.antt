pub mod Naming
pub mod Origins
pub mod Laws
pub mod Nodes
pub mod Numbers
