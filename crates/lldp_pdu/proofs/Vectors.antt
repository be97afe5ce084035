-- Test vectors: literal octets and their contents, computed from the definitions alone.
pub mod Parts
pub mod Rows
pub mod Frames
pub mod Numbers
pub mod Types
