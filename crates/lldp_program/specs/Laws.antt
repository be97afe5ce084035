-- Definitions that only the laws use: what others state, in terms of octets, positions and counts.
pub mod FixedNumbers
pub mod Counted
pub mod Ends
pub mod Refused
pub mod Sayings
pub mod Lines
pub mod OnlyLines
pub mod Asked
pub mod Stopped
pub mod CommandLine
pub mod Listening
pub mod Served
