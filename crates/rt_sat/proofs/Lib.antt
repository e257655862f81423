pub mod Binary
pub mod Deciding
pub mod Sounding
pub mod Searching
pub mod Indices
pub mod Numbered
pub mod Pushed
pub mod Places
pub mod Closed
pub mod Telling
pub mod Families
pub mod Walking
pub mod Emitting
pub mod ToldPushes
pub mod Children
pub mod Growing
pub mod Apart
pub mod Closings
pub mod Entered
pub mod Frames
pub mod Mattering
pub mod Marks
pub mod Below
pub mod Bounded
pub mod Probes
pub mod Descending
pub mod Raising
pub mod Weighing
pub mod Weighed
pub mod Flagging
pub mod Completing
pub mod Adding
pub mod Copying
mod Homes
mod Turning
mod Standing
mod Linking
