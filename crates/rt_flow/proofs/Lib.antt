mod Walking
mod Answering
mod Arriving
mod Blockwise
mod Classing
mod Definitions
mod Dividing
mod Filling
mod Grouping
mod Marking
mod Numbered
pub mod Pushed
mod Ranges
mod Sourcing
mod Tabled
mod Targeting
