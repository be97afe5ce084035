pub mod OnePort
pub mod AllPorts
pub mod Standing
pub mod Readers
pub mod Headline
pub mod ForLaws
pub mod Lines
pub mod Frames
