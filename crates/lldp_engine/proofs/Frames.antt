-- Frames that ports send.
pub mod Puts
pub mod Says
pub mod Past
pub mod Rows
