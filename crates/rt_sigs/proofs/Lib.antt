pub mod Finding
pub mod Constants
pub mod Parts
pub mod Files
pub mod OneFile
pub mod NoFault
pub mod OneFault
