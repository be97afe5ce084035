-- Proofs that only the laws use.
pub mod Sayings
pub mod Lines
pub mod OnlyLines
pub mod Asked
pub mod Stopped
pub mod CommandLine
pub mod Listening
pub mod Served
pub mod Ends
pub mod Refused
