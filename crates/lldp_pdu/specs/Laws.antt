-- Definitions that only the laws use. They describe the same rules in another way.
pub mod CapsSpelling
pub mod FrameForm
pub mod KeptOnce
pub mod PutFaults
pub mod SoundForm
pub mod Told
