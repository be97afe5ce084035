-- The code's state for reading and building LLDPDUs, and the values of `Info` and `Builder`.
pub mod Seen
pub mod Survey
pub mod InfoView
pub mod BuilderView
