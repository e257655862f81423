pub mod Instances
pub mod Unfolded
pub mod Labels
pub mod There
