-- Definitions that only laws use.
pub mod Asked
pub mod Shown
pub mod Words
pub mod Order
pub mod Passed
pub mod Passing
pub mod Gone
pub mod Left
pub mod Opened
pub mod Machines
pub mod Read
pub mod Reported
pub mod Refused
