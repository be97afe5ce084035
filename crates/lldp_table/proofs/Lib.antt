pub mod Msap
pub mod Live
pub mod Extents
pub mod Outcomes
pub mod Standing
pub mod Rows
pub mod Slots
pub mod Ageing
