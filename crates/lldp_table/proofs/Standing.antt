-- Tables that match lists of calls (`Stands`).
pub mod Calls
pub mod Sound
pub mod Lists
