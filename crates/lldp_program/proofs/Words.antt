-- The arguments of the program.
pub mod Addresses
pub mod Parsed
pub mod Usage
