-- One port: what it hears and counts, which events are allowed, and when it may send.
pub mod Heard
pub mod Counters
pub mod Allowed
pub mod Rights
pub mod Telling
