-- Runs over a trace.
pub mod Items
pub mod Joined
pub mod Progress
pub mod Piece
pub mod KeepsOn
