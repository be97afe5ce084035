-- How the code stores a table and its times, and what each call does to the contents (`Steps`).
pub mod Steps
pub mod Stored
pub mod Queue
pub mod Marks
pub mod Ageing
pub mod Layout
pub mod Tags
pub mod Room
pub mod Lent
