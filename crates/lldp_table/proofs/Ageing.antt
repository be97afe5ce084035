-- The queue of slots in the order of expiry, and how a tick removes slots from it.
pub mod Timed
pub mod Ticks
pub mod Steps
pub mod Due
pub mod Soonest
