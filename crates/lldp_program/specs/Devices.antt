-- Devices that a trace is read from and written to, and acceptors of connections.
pub mod Counts
pub mod Adapters
pub mod Acceptors
