-- Definitions that only the laws use: how values are written, and when neighbors are shown alike.
pub mod Alike
pub mod Forms
