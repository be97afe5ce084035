-- The arguments of the program.
pub mod Addresses
pub mod Usage
pub mod Arguments
