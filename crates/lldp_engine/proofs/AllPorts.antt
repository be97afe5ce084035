-- The ports of an agent: how an event changes them, and that they stay sound.
pub mod EachPort
pub mod Sound
pub mod Telling
