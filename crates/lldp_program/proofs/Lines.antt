-- The lines of an input.
pub mod Plain
pub mod Held
pub mod Pieces
pub mod Long
