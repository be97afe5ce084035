-- The lines of show commands, and the sinks that receive them.
pub mod Parts
pub mod Taken
pub mod OneKept
pub mod Bound
pub mod Cursors
pub mod Later
