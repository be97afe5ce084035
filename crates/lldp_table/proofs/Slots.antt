-- Slots, and the order of those in use.
pub mod Tags
pub mod Places
pub mod Layout
pub mod Search
pub mod Learned
pub mod Room
pub mod Counted
